use Rattle.std.proofs.Common.{◌≡◌, ◌+◌, ◌-◌, ◌*◌, ◌≤◌, ℕ, length, take, min, ap, ◌∙◌, arith}
use Rattle.std.proofs.lemmas.List.{length-take}
use Rattle.state_spec.specs.Manifest.{sum_of}
use Rattle.disk_model.specs.OnlyReads.{reads_only_more}
use Rattle.page_map.specs.Pieces.{pages_for_read}
use Rattle.page_map.specs.Reads.{bytes_of}
use Rattle.page_map.proofs.Written.{live_long}
use Rattle.manifest_incr.proofs.Taken.{read_least, whole_chunk}
use Rattle.manifest_incr.proofs.table.read_sum.Goals as goal

pub returns-in_err-read-clause-reads_only : goal.returns-in_err-read-clause-reads_only
returns-in_err-read-clause-reads_only g c = λ told.
    let n : ℕ = length (take c.min.result c.args.buffer.now) in
    let at : ℕ = c.from.result * 1048576 in
    let is : at ≡ c.args.chunk * 1048576 = ap (λ (k : ℕ). k * 1048576) c.from.ensures in
    let few : n ≤ 1048576 = omega (arith, length-take c.min.result c.args.buffer.now, c.min.ensures) in
    reads_only_more (4096 * length (pages_for_read c.args.pages.now c.args.map.now.id at n)) 1048576 (g.D.Disk.view c.args.disk.now) (g.D.Disk.view c.read.new.disk)
    (read_least c.args.pages.now c.args.map.now.id at n c.args.chunk is few) (c.read.ensures.reads_only told)

pub returns-clause-reads_only : goal.returns-clause-reads_only
returns-clause-reads_only g c = λ told.
    let n : ℕ = length (take c.min.result c.args.buffer.now) in
    let at : ℕ = c.from.result * 1048576 in
    let is : at ≡ c.args.chunk * 1048576 = ap (λ (k : ℕ). k * 1048576) c.from.ensures in
    let few : n ≤ 1048576 = omega (arith, length-take c.min.result c.args.buffer.now, c.min.ensures) in
    reads_only_more (4096 * length (pages_for_read c.args.pages.now c.args.map.now.id at n)) 1048576 (g.D.Disk.view c.args.disk.now) (g.D.Disk.view c.read.new.disk)
    (read_least c.args.pages.now c.args.map.now.id at n c.args.chunk is few) (c.read.ensures.reads_only told)

pub returns-clause-sum : goal.returns-clause-sum
returns-clause-sum g c = λ told layers are.
    let bytes = bytes_of layers c.args.pages.now c.args.map.now in
    let n : ℕ = length (take c.min.result c.args.buffer.now) in
    let at : ℕ = c.from.result * 1048576 in
    let is : at ≡ c.args.chunk * 1048576 = ap (λ (k : ℕ). k * 1048576) c.from.ensures in
    let pages : c.from-2.result ≡ c.args.map.now.length = c.from-2.ensures ∙ c.length.ensures in
    let count : n ≡ min (c.args.map.now.length * 4096 - at) 1048576 = omega (arith, length-take c.min.result c.args.buffer.now, c.min.ensures, c.requires.room, pages) in
    c.sum_of.ensures ∙ ap (sum_of c.args.version) (c.in_ok-read.ensures.bytes told layers are
    ∙ whole_chunk bytes c.args.map.now.length c.args.chunk at n (live_long c.args.pages.now c.args.map.now (g.D.Disk.view c.args.disk.now).state.files layers c.requires.live are) is count)
