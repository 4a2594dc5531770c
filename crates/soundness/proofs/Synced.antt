-- What a peer's right pieces and chunks give, against any valid state with the target's root.
use Rattle.std.proofs.Common.{◌≡◌, ◌⊎◌, List, ◌∷◌, map, refl, sym, ap, ◌∙◌, inl, inr, arith}
use Rattle.sha2.specs.Sha256.{sha256}
use Rattle.format_spec.proofs.Cuts.{hashes_cut}
use Rattle.format_spec.specs.Bytes.{Bytes}
use Rattle.format_spec.specs.Hashes.{chunk_string, piece_string, root_string, chunk_hash, piece_hash, root_hash}
use Rattle.format_spec.specs.declared.limits.TheConstants.{PIECE_SIZE}
use Rattle.state_spec.specs.State.{State}
use Rattle.state_spec.specs.Files.{files}
use Rattle.state_spec.specs.Manifest.{manifest_of, manifest_from}
use Rattle.state_spec.specs.ManifestText.{manifest_text}
use Rattle.state_spec.specs.Root.{MetaManifest, meta_of, root_of, root_of_meta, hashed_strings}
use Rattle.soundness.proofs.Strings.{Meet, one_or_meet, first_of_list, behind_first, meet_within}
use Rattle.format_spec.proofs.Parts.{joined, joined_parts}
use Rattle.soundness.proofs.Joins.{each_or_meet}
use Rattle.soundness.proofs.Texts.{chunks_in, hashes_in, row_hashes}
use Rattle.soundness.proofs.SameRoot.{pieces_in, in_chunks, in_pieces, in_root, root_is, pieces_are, chunks_are, pieces_32, root_joined, chunk_inj, piece_inj}

pieces_as : (ps : List Bytes) → map piece_hash ps ≡ map (λ x. sha256 (piece_string x)) ps
unfolding piece_hash
pieces_as ps = refl

root_as : (m : MetaManifest) → root_of_meta m ≡ sha256 (root_string m.version m.pieces)
unfolding root_hash
root_as m = refl

module _ (s : State) (m : MetaManifest) (ps : List Bytes) (root : root_of_meta m ≡ root_of s) (right : map piece_hash ps ≡ m.pieces) where
  pub manifest_or_meet : (joined ps ≡ manifest_text (manifest_of s)) ⊎ Meet (hashed_strings s) (root_string m.version m.pieces ∷ map piece_string ps)
  manifest_or_meet = by (one_or_meet (root_string s.version (meta_of (manifest_of s)).pieces) (root_string m.version m.pieces) (hashed_strings s)
      (root_string m.version m.pieces ∷ map piece_string ps) (in_root s) (first_of_list (root_string m.version m.pieces) (map piece_string ps)) (sym (root_is s) ∙ sym root ∙ root_as m))
    where
      by_pieces : (pieces_in s ≡ ps) ⊎ Meet (map piece_string (pieces_in s)) (map piece_string ps) → (joined ps ≡ manifest_text (manifest_of s)) ⊎ Meet (hashed_strings s) (root_string m.version m.pieces ∷ map piece_string ps)
      by_pieces (inr c) = inr (meet_within (map piece_string (pieces_in s)) (map piece_string ps) (hashed_strings s) (root_string m.version m.pieces ∷ map piece_string ps) (in_pieces s) (λ x h. behind_first (root_string m.version m.pieces) (map piece_string ps) x h) c)
      by_pieces (inl e) = inl (ap joined (sym e) ∙ joined_parts PIECE_SIZE (manifest_text (manifest_of s)) (omega arith))

      by : (root_string s.version (meta_of (manifest_of s)).pieces ≡ root_string m.version m.pieces) ⊎ Meet (hashed_strings s) (root_string m.version m.pieces ∷ map piece_string ps)
          → (joined ps ≡ manifest_text (manifest_of s)) ⊎ Meet (hashed_strings s) (root_string m.version m.pieces ∷ map piece_string ps)
      by (inr c) = inr c
      by (inl e) =
          let have : m.pieces ≡ map (λ x. sha256 (piece_string x)) ps = sym right ∙ pieces_as ps in
          let j : joined (map (λ x. sha256 (piece_string x)) (pieces_in s)) ≡ joined (map (λ x. sha256 (piece_string x)) ps) =
          ap joined (sym (pieces_are (manifest_of s))) ∙ root_joined s.version m.version (meta_of (manifest_of s)).pieces m.pieces e ∙ ap joined have in
          by_pieces (each_or_meet piece_string piece_inj (pieces_in s) ps (hashes_cut (map (λ x. sha256 (piece_string x)) (pieces_in s)) (map (λ x. sha256 (piece_string x)) ps) (pieces_32 (pieces_in s)) (pieces_32 ps) j))

pub chunks_or_meet : (s : State) (cs : List Bytes) → map chunk_hash cs ≡ hashes_in (manifest_of s).chunks → (cs ≡ chunks_in (files s)) ⊎ Meet (hashed_strings s) (map chunk_string cs)
unfolding manifest_of manifest_from
chunks_or_meet s cs e = by (each_or_meet chunk_string chunk_inj (chunks_in (files s)) cs (sym (chunks_are (chunks_in (files s))) ∙ sym (row_hashes 0 (files s)) ∙ sym e ∙ chunks_are cs))
  where
    by : (chunks_in (files s) ≡ cs) ⊎ Meet (map chunk_string (chunks_in (files s))) (map chunk_string cs) → (cs ≡ chunks_in (files s)) ⊎ Meet (hashed_strings s) (map chunk_string cs)
    by (inr c) = inr (meet_within (map chunk_string (chunks_in (files s))) (map chunk_string cs) (hashed_strings s) (map chunk_string cs) (in_chunks s) (λ x h. h) c)
    by (inl p) = inl (sym p)
