-- The order of an index tells apart just the keys that are not one.
use Rattle.std.proofs.Common.{◌≡◌, Bool, ap, arith}
use Rattle.std.proofs.lemmas.Bool.Decides.{nat_tests}
use Rattle.std.specs.Map.{lookup}
use Rattle.std.specs.BTreeMap.{is_at}
use Rattle.chunk_index.specs.declared.index.ChunkKey.{ChunkKey}
use Rattle.chunk_index.specs.contracts.index.ChunkKeyOrd.TheImpl.{cmp-value}
use Rattle.chunk_index.specs.Index.{Places, has_key}

pub cmp_same : (a b : ChunkKey) → is_at (cmp-value.it a) b ≡ has_key a.size a.hash b
cmp_same a b = grind (arith, nat_tests)

pub lookup_same : (q : ChunkKey) (places : Places) → lookup (is_at (cmp-value.it q)) places ≡ lookup (has_key q.size q.hash) places
lookup_same q places = ap (λ (t : ChunkKey → Bool). lookup t places) (λ i k. cmp_same q k i)
