-- The system text, from what stands in a state.
use Rattle.state_spec.proofs.SystemGood.{fits_good}
use Rattle.state_spec.proofs.SystemWhole.{SystemFits, system_law}
use Rattle.format_spec.proofs.Readings.{whole_takes}
use Rattle.state_spec.specs.State.{SystemPart, CanisterPart, IsSystem, FitsCanister}
use Rattle.format_spec.proofs.StateLimits.{memory_limits, state_limits, memory_limit-2, state_limit-2}
use Rattle.format_spec.proofs.Lists.{all_weaker}
use Rattle.std.proofs.Common.{◌≡◌, ℕ, arith, List, [], ◌∷◌, ◌++◌, length, map, codes, refl, ap, sym, Ok}
use Rattle.std.specs.List.{flat_map}
use Rattle.std.proofs.lemmas.List.{length-map}
use Rattle.format_spec.specs.Bytes.{be32, be64, IsBytes, Bytes}
use Rattle.state_spec.specs.SystemText.{canister_text, entry_text, system_text, read_system, system_fields}
use Rattle.sys_state.specs.System.{System, part_of, part_of_record}

flat_map-map : {X Y Z : Type 0} (f : Y → List Z) (g : X → Y) (xs : List X) → flat_map f (map g xs) ≡ flat_map (λ x. f (g x)) xs
flat_map-map f g [] = refl
flat_map-map f g (x ∷ xs) = ap (λ l. f (g x) ++ l) (flat_map-map f g xs)

pub text_is : (s : System) → codes "ICSY" ++ be32 1 ++ be64 s.time ++ be32 (length s.canisters) ++ flat_map (λ c. canister_text (c.0, part_of_record c.1)) s.canisters ++ be32 (length s.entries) ++ flat_map entry_text s.entries
    ≡ system_text (part_of s)
unfolding system_text
text_is s =
    let count = length-map s.canisters (λ c. (c.0, part_of_record c.1)) in
    let text = flat_map-map canister_text (λ c. (c.0, part_of_record c.1)) s.canisters in
    λ i. codes "ICSY" ++ be32 1 ++ be64 s.time ++ be32 (sym count i) ++ sym text i ++ be32 (length s.entries) ++ flat_map entry_text s.entries

canister_within : (version : ℕ) (c : Bytes × CanisterPart) → FitsCanister version c → FitsCanister 2 c
canister_within version c fits = record {
  id = fits.id;
  wasm = fits.wasm;
  certified = fits.certified;
  heap = (let few = fits.heap in omega (arith, few, (memory_limits version).1, memory_limit-2));
  stable = (let few = fits.stable in omega (arith, few, (memory_limits version).1, memory_limit-2));
}

-- what a text spells is within the limits
pub read_is_system : (version : ℕ) (text : Bytes) (s : SystemPart) → IsBytes text → read_system version text ≡ Ok s → IsSystem version s
unfolding read_system
read_is_system version text s bytes read = fits_good version s (whole_takes (system_fields version) system_text (SystemFits version) (system_law version) text s bytes read).1

-- the limits of no version are above those of version 2
pub within_all : (version : ℕ) (s : SystemPart) → IsSystem version s → IsSystem 2 s
within_all version s is = record {
  time = is.time;
  few_canisters = is.few_canisters;
  ids_ascend = is.ids_ascend;
  canisters_fit = all_weaker (FitsCanister version) (FitsCanister 2) (canister_within version) s.canisters is.canisters_fit;
  pages_fit = (let few = is.pages_fit in omega (arith, few, (state_limits version).1, state_limit-2));
  few_entries = is.few_entries;
  paths_ascend = is.paths_ascend;
  paths_apart = is.paths_apart;
  entries_fit = is.entries_fit;
}
