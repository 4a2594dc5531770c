-- What a system text of bytes spells is of bytes.
use Rattle.std.proofs.Common.{suc, List, [], ◌∷◌, ◌++◌, length, codes, Option, Some, None, IfSome}
use Rattle.std.specs.List.{AllByRecursion, flat_map}
use Rattle.format_spec.specs.Bytes.{Bytes, IsBytes, be16, be32, be64, short_string}
use Rattle.format_spec.proofs.ByteStrings.{cut_bytes}
use Rattle.format_spec.proofs.Lists.{all_weaker}
use Rattle.state_spec.specs.State.{CanisterPart, IsByteEntry, SystemPart}
use Rattle.state_spec.specs.SystemText.{canister_text, entry_text, path_text, system_text, wasm_text}

each_of : {X : Type 0} (f : X → Bytes) (xs : List X) → IsBytes (flat_map f xs) → AllByRecursion (λ x. IsBytes (f x)) xs
each_of f [] h = tt
each_of f (x ∷ xs) h = let p = cut_bytes (f x) (flat_map f xs) h in (p.0, each_of f xs p.1)

-- the strings of a canister are of bytes
pub record HasBytes (c : Bytes × CanisterPart) : Type 0 where
  pub id : IsBytes c.0
  pub wasm : IfSome c.1.wasm IsBytes
  pub certified : IsBytes c.1.certified

wasm_bytes : (wasm : Option Bytes) → IsBytes (wasm_text wasm) → IfSome wasm IsBytes
wasm_bytes None h = tt
wasm_bytes (Some m) h = (cut_bytes (1 ∷ be32 (length m)) m h).1

canister_bytes : (c : Bytes × CanisterPart) → IsBytes (canister_text c) → HasBytes c
canister_bytes c h =
    let x : Bytes = short_string c.0 in
    let y : Bytes = wasm_text c.1.wasm in
    let z : Bytes = short_string c.1.certified in
    let a = cut_bytes (x ++ y ++ z ++ be32 c.1.heap) (be32 c.1.stable) h in
    let b = cut_bytes (x ++ y ++ z) (be32 c.1.heap) a.0 in
    let d = cut_bytes (x ++ y) z b.0 in
    let e = cut_bytes x y d.0 in
    record { id = λ i. e.0 (suc i); wasm = wasm_bytes c.1.wasm e.1; certified = λ i. d.1 (suc i) }

entry_bytes : (e : List Bytes × Bytes) → IsBytes (entry_text e) → IsByteEntry e
entry_bytes e h =
    let a = cut_bytes (path_text e.0 ++ be16 (length e.1)) e.1 h in
    let b = cut_bytes (path_text e.0) (be16 (length e.1)) a.0 in
    record { path = all_weaker (λ l. IsBytes (short_string l)) IsBytes (λ l h i. h (suc i)) e.0 (each_of short_string e.0 (λ i. b.0 (suc i))); value = a.1 }

pub system_bytes : (s : SystemPart) → IsBytes (system_text s) → AllByRecursion HasBytes s.canisters × AllByRecursion IsByteEntry s.entries
unfolding system_text
system_bytes s h =
    let x : Bytes = codes "ICSY" ++ be32 1 ++ be64 s.time ++ be32 (length s.canisters) in
    let y : Bytes = x ++ flat_map canister_text s.canisters in
    let z : Bytes = y ++ be32 (length s.entries) in
    let a = cut_bytes z (flat_map entry_text s.entries) h in
    let b = cut_bytes y (be32 (length s.entries)) a.0 in
    let d = cut_bytes x (flat_map canister_text s.canisters) b.0 in (
      all_weaker (λ c. IsBytes (canister_text c)) HasBytes canister_bytes s.canisters (each_of canister_text s.canisters d.1),
      all_weaker (λ e. IsBytes (entry_text e)) IsByteEntry entry_bytes s.entries (each_of entry_text s.entries a.1),
    )
