-- The image that a choice makes is of bytes.
use Rattle.std.proofs.Common.{ℕ, zero, suc, Bool, true, false, ◌&&◌, ◌==◌, ◌/◌, ◌%◌, List, [], ◌∷◌, Some, None, is_some, unwrap_or, length, take, replicate, arith, cond}
use Rattle.std.specs.List.{AllByRecursion}
use Rattle.format_spec.specs.Bytes.{IsBytes}
use Rattle.format_spec.proofs.ByteStrings.{take_bytes}
use Rattle.disk_model.specs.Files.{Files}
use Rattle.disk_model.specs.State.{DiskState}
use Rattle.disk_model.specs.Images.{spoiled_file, last_from, outcome_chosen, image_of}
use Rattle.disk_model.specs.OfBytes.{AreOfBytes, HoldsBytes, no_bytes}

same_bytes : (n : ℕ) → IsBytes (replicate n 255)
same_bytes zero i = no_bytes i
same_bytes (suc n) zero = omega arith
same_bytes (suc n) (suc i) = same_bytes n i

spoiled_bytes : (how : ℕ) (bytes : List ℕ) → IsBytes bytes → IsBytes (unwrap_or (spoiled_file how bytes) [])
spoiled_bytes how bytes h = by (how == 0) (how == 1) (how == 2)
  where
    by : (a b c : Bool) → IsBytes (unwrap_or (cond a None (cond b (Some bytes) (cond c (Some (take (length bytes / 2) bytes)) (Some (replicate (length bytes) 255))))) [])
    by true b c = no_bytes
    by false true c = h
    by false false true = take_bytes (length bytes / 2) bytes h
    by false false false = same_bytes (length bytes)

last_bytes : (f : Files) (fs : List Files) → AreOfBytes f → AllByRecursion AreOfBytes fs → AreOfBytes (last_from f fs)
last_bytes f [] h all = h
last_bytes f (g ∷ fs) h all = last_bytes g fs all.0 all.1

picked_bytes : (happened : Bool) (fs : List Files) → AllByRecursion AreOfBytes fs → AreOfBytes (outcome_chosen happened fs)
picked_bytes happened [] all = λ q. no_bytes
picked_bytes true (f ∷ fs) all = last_bytes f fs all.0 all.1
picked_bytes false (f ∷ fs) all = all.0

pub chosen_bytes : (choice : ℕ) (s : DiskState) → HoldsBytes s → AreOfBytes (image_of choice s)
unfolding image_of
chosen_bytes choice s holds q = by (s.loose q && is_some (s.files q))
  where
    by : (b : Bool) → IsBytes (unwrap_or (cond b (spoiled_file (choice / 2 % 4) (unwrap_or (s.files q) [])) (outcome_chosen (choice % 2 == 1) s.outcomes q)) [])
    by true = spoiled_bytes (choice / 2 % 4) (unwrap_or (s.files q) []) (holds.files q)
    by false = picked_bytes (choice % 2 == 1) s.outcomes holds.outcomes q
