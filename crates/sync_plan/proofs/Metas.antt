-- What the text of a meta-manifest begins with, and that its hash is its root hash.
use Rattle.std.proofs.Common.{◌≡◌, ◌∙◌, ◌^◌, ℕ, Bool, true, false, ◌&&◌, ◌++◌, length, drop, Option, Some, None, Ok, refl, sym, ap, arith, append_assoc}
use Rattle.std.specs.Prelude.{codes}
use Rattle.std.specs.Int.{w32}
use Rattle.std.specs.List.{flat_map}
use Rattle.std.specs.Option.{is_some}
use Rattle.sha2.specs.Sha256.{sha256}
use Rattle.format_spec.specs.Bytes.{Bytes, IsBytes, same_bytes, be32}
use Rattle.format_spec.specs.Fields.{Cursor, reading_by_rule, field, any, number}
use Rattle.format_spec.specs.Hashes.{with_separator, root_hash}
use Rattle.format_spec.proofs.Forms.{number_law, wide32}
use Rattle.format_spec.proofs.Lists.{none_or_some}
use Rattle.format_spec.proofs.Readings.{cursor, ok_is}
use Rattle.state_spec.specs.Root.{MetaManifest, read_meta}
use Rattle.state_spec.proofs.BothWays.{meta_is}
use Rattle.state_spec.proofs.VersionCases.{version_low}
use Rattle.sync_spec.specs.Serving.{is_taken, has_root}

module _ (root s : Bytes) where
  -- where the text spells one, of a version that is taken or isn't
  pub root_tested : IsBytes s → is_some (read_meta s) ≡ true → (taken : Bool) → ((m : MetaManifest) → read_meta s ≡ Some m → taken ≡ is_taken m.version)
      → has_root root (read_meta s) ≡ (taken && same_bytes (sha256 (with_separator (codes "ic-state-meta-manifest") s)) root)
  unfolding root_hash
  root_tested bytes there taken version = go (read_meta s) refl there
    where
      go : (o : Option MetaManifest) → read_meta s ≡ o → is_some o ≡ true → has_root root o ≡ (taken && same_bytes (sha256 (with_separator (codes "ic-state-meta-manifest") s)) root)
      go None e h = absurd cc
      go (Some m) e h = rw (version m e, (meta_is s m bytes e).0) refl

  pub no_root : (o : Option MetaManifest) → is_some o ≡ false → has_root root o ≡ false
  no_root None h = refl
  no_root (Some m) h = absurd cc

-- the number that the text begins with is the version
version_first : (s : Bytes) (m : MetaManifest) → IsBytes s → read_meta s ≡ Some m → number w32 s ≡ Some (m.version, 4)
version_first s m bytes e =
    let found = meta_is s m bytes e in
    let count = be32 (length m.pieces) in
    let hashes = flat_map (λ (hash : Bytes). hash) m.pieces in
    ap (number w32) (found.0 ∙ append_assoc (be32 m.version) count hashes)
    ∙ (number_law w32 (2 ^ 32) wide32).again m.version (count ++ hashes) (omega (arith, (version_low m.version found.1.version).1))

pub version_read : (s : Bytes) (m : MetaManifest) (v : ℕ) (d : Cursor) → IsBytes s → read_meta s ≡ Some m → field (number w32) any (cursor 0 s) ≡ Ok (v, d) → v ≡ m.version
version_read s m v d bytes e read =
    let first : field (number w32) any (cursor 0 s) ≡ Ok (m.version, cursor 4 (drop 4 s)) = ap (λ (o : Option (ℕ × ℕ)). reading_by_rule any o (cursor 0 s)) (version_first s m bytes e) in
    ap (λ (x : ℕ × Cursor). x.0) (ok_is (v, d) (m.version, cursor 4 (drop 4 s)) (sym read ∙ first))

-- and it isn't cut
pub version_there : (s : Bytes) (m : MetaManifest) → IsBytes s → read_meta s ≡ Some m → number w32 s ≡ None → ⊥
version_there s m bytes e cut = none_or_some (m.version, 4) (number w32 s) cut (version_first s m bytes e)
