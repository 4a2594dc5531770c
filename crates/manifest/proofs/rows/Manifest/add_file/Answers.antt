use Rattle.std.proofs.Common.{◌∙◌, ◌≡◌, length, ap, List, arith}
use Rattle.format_spec.specs.Hashes.{ChunkSum}
use Rattle.manifest.specs.Adding.{sums_from}
use Rattle.manifest.proofs.Growing.{few_sums}
use Rattle.manifest.proofs.rows.Manifest.add_file.Goals as goal

pub file_hash-hash-requires : goal.file_hash-hash-requires
file_hash-hash-requires c =
    let count : length c.deref-2.result.now ≡ length (sums_from c.args.size c.args.hashes.now) = ap (λ (sums : List ChunkSum). length sums) (c.deref-2.ensures.value ∙ c.in_ok-sums.ensures) in
    let few = few_sums c.args.size c.args.hashes.now in
    let small = c.requires.hashes in
    omega (arith, count, few, small)
