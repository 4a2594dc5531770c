use Rattle.std.proofs.Common.{◌≡◌, ◌⊎◌, List, ◌∷◌, map, Ok, ap, ◌∙◌, subst, inl, inr}
use Rattle.std.specs.List.{flat_map}
use Rattle.format_spec.specs.Bytes.{Bytes, IsBytes, AreByteStrings}
use Rattle.format_spec.specs.Hashes.{root_string, piece_string, chunk_string, piece_hash}
use Rattle.state_spec.specs.State.{State, IsState}
use Rattle.state_spec.specs.Files.{files}
use Rattle.state_spec.specs.Manifest.{manifest_of, row_chunks}
use Rattle.state_spec.specs.ManifestText.{manifest_text, read_manifest}
use Rattle.state_spec.specs.Root.{MetaManifest, hashed_strings}
use Rattle.state_spec.proofs.ManifestWhole.{manifest_only}
use Rattle.soundness.proofs.Strings.{Meet, or_clash}
use Rattle.soundness.proofs.StateManifests.{manifest_good}
use Rattle.soundness.proofs.StateBytes.{state_strings, root_bytes, piece_string_bytes, chunk_string_bytes}
use Rattle.soundness.proofs.Synced.{manifest_or_meet, chunks_or_meet}
use Rattle.soundness.proofs.laws.right_items_are_the_state_s.Goals as goal

read_or_meet : (s : State) (got : List Bytes) (text : Bytes) → IsState s → (text ≡ manifest_text (manifest_of s)) ⊎ Meet (hashed_strings s) got → (read_manifest text ≡ Ok (manifest_of s)) ⊎ Meet (hashed_strings s) got
read_or_meet s got text h (inl e) = inl (ap read_manifest e ∙ manifest_only (manifest_of s) (manifest_good s h))
read_or_meet s got text h (inr c) = inr c

got_bytes : (m : MetaManifest) (ps : List Bytes) → AreByteStrings ps → map piece_hash ps ≡ m.pieces → AreByteStrings (root_string m.version m.pieces ∷ map piece_string ps)
got_bytes m ps h e = (subst (λ (x : List Bytes). IsBytes (root_string m.version x)) e (root_bytes m.version ps), piece_string_bytes ps h)

pub returns-clause-manifest : goal.returns-clause-manifest
returns-clause-manifest c = λ s m ps h b r e.
    let got : List Bytes = root_string m.version m.pieces ∷ map piece_string ps in
    let text : Bytes = flat_map (λ p. p) ps in
    or_clash (read_manifest text ≡ Ok (manifest_of s)) (hashed_strings s) got (state_strings s h) (got_bytes m ps b e)
    (read_or_meet s got text h (manifest_or_meet s m ps r e))

pub returns-clause-chunks : goal.returns-clause-chunks
returns-clause-chunks c = λ s cs h b e.
    or_clash (cs ≡ flat_map row_chunks (files s)) (hashed_strings s) (map chunk_string cs) (state_strings s h) (chunk_string_bytes cs b) (chunks_or_meet s cs e)
