use Rattle.std.proofs.Common.{◌≡◌, ℕ, ap, arith}
use Rattle.std.proofs.lemmas.Grind.{common_steps}
use Rattle.format_spec.specs.Bytes.{Bytes}
use Rattle.chunk_index.specs.declared.index.ChunkKey.{ChunkKey}
use Rattle.chunk_index.specs.Index.{place_in}
use Rattle.chunk_index.proofs.Keys.{cmp_same, lookup_same}
use Rattle.chunk_index.proofs.Rows.{row_new, row_there}
use Rattle.chunk_index.proofs.index.put.Goals as goal

abbrev key_of : ℕ → Bytes → ChunkKey
key_of size hash = record { size = size; hash = hash }

pub returns-in_ok-insert : goal.returns-in_ok-insert
returns-in_ok-insert c =
    let own : ChunkKey = key_of c.args.size c.hash.inside.0 in
    let same : c.hash.inside.0 ≡ c.args.hash.now = c.hash.view_is in
    λ rows indexed. row_new c.args.size c.args.hash.now c.args.place rows c.args.places.now.entries c.insert.new.self.entries
    (grind (arith, common_steps, c.contains_key.ensures, c.if-not-contains_key.true, lookup_same own c.args.places.now.entries, ap (place_in c.args.places.now.entries c.args.size) same))
    (λ s h. grind (arith, common_steps, c.in_ok-insert.ensures.updates.0 (key_of s h), lookup_same (key_of s h) c.insert.new.self.entries, lookup_same (key_of s h) c.args.places.now.entries, cmp_same own (key_of s h), same))
    indexed

pub returns-else-not-contains_key : goal.returns-else-not-contains_key
returns-else-not-contains_key c =
    let own : ChunkKey = key_of c.args.size c.hash.inside.0 in
    λ rows indexed. row_there c.args.size c.args.hash.now c.args.place rows c.args.places.now.entries
    (grind (arith, common_steps, c.contains_key.ensures, c.if-not-contains_key.false, lookup_same own c.args.places.now.entries, ap (place_in c.args.places.now.entries c.args.size) c.hash.view_is))
    indexed
