-- Bytes of a memory, page by page.
use Rattle.std.proofs.Common.{◌≡◌, ℕ, zero, suc, ◌+◌, ◌-◌, ◌*◌, ◌≤◌, List, ◌∷◌, ◌++◌, length, reverse, take, drop, Option, Some, IsSomeAnd, sym, ◌∙◌, ap, subst, arith}
use Rattle.std.specs.List.{AllByRecursion, flat_map, range_with_len}
use Rattle.std.proofs.lemmas.List.{take-take, take_at, drop-take, drop-drop, drop_at}
use Rattle.std.proofs.lemmas.List.Concat.{flat_map-append}
use Rattle.std.proofs.lemmas.List.FromFn.{length-range_with_len}
use Rattle.format_spec.specs.Bytes.{Bytes}
use Rattle.format_spec.specs.declared.limits.TheConstants.{PAGE_SIZE}
use Rattle.page_spec.specs.Layers.{Layer, page_from, memory_from}
use Rattle.page_spec.specs.Whole.{IsWhole, length-newest_page, length-pages}

-- ---- pages of a memory

range_split : (a n m : ℕ) → range_with_len a (n + m) ≡ range_with_len a n ++ range_with_len (a + n) m
range_split a zero m =
    let e : zero + m ≡ m = omega arith in
    let f : a ≡ a + zero = omega arith in
    ap (λ (k : ℕ). range_with_len a k) e ∙ ap (λ (k : ℕ). range_with_len k m) f
range_split a (suc n) m =
    let e : suc n + m ≡ suc (n + m) = omega arith in
    let f : a + 1 + n ≡ a + suc n = omega arith in
    ap (λ (k : ℕ). range_with_len a k) e
    ∙ ap (λ (ks : List ℕ). a ∷ ks) (range_split (a + 1) n m ∙ ap (λ (k : ℕ). range_with_len (a + 1) n ++ range_with_len k m) f)

pages_cut : (f : ℕ → Bytes) (first n rest : ℕ) → ((page : ℕ) → length (f page) ≡ PAGE_SIZE)
    → take (n * PAGE_SIZE) (drop (first * PAGE_SIZE) (flat_map f (range_with_len 0 (first + (n + rest))))) ≡ flat_map f (range_with_len first n)
pages_cut f first n rest each =
    let before : Bytes = flat_map f (range_with_len 0 first) in
    let here : Bytes = flat_map f (range_with_len first n) in
    let behind : Bytes = flat_map f (range_with_len (first + n) rest) in
    let none : 0 + first ≡ first = omega arith in
    let split : flat_map f (range_with_len 0 (first + (n + rest))) ≡ before ++ (here ++ behind) =
    ap (flat_map f) (range_split 0 first (n + rest) ∙ ap (λ (k : ℕ). range_with_len 0 first ++ range_with_len k (n + rest)) none)
    ∙ flat_map-append f (range_with_len 0 first) (range_with_len first (n + rest))
    ∙ ap (λ (bytes : Bytes). before ++ bytes) (ap (flat_map f) (range_split first n rest) ∙ flat_map-append f (range_with_len first n) (range_with_len (first + n) rest)) in
    ap (λ (bytes : Bytes). take (n * PAGE_SIZE) (drop (first * PAGE_SIZE) bytes)) split
    ∙ ap (take (n * PAGE_SIZE)) (drop_at before (here ++ behind) (first * PAGE_SIZE) (length-pages f each 0 first))
    ∙ take_at here behind (n * PAGE_SIZE) (length-pages f each first n)

-- pages one behind the other are a part of the memory
pages_of_memory : (count first n : ℕ) (layers : List Layer) → AllByRecursion IsWhole layers → first + n ≤ count
    → flat_map (page_from (reverse layers)) (range_with_len first n) ≡ take (n * PAGE_SIZE) (drop (first * PAGE_SIZE) (memory_from count layers))
unfolding memory_from
pages_of_memory count first n layers whole le =
    let f : ℕ → Bytes = page_from (reverse layers) in
    let e : first + (n + (count - first - n)) ≡ count = omega (arith, le) in
    sym (pages_cut f first n (count - first - n) (λ page. length-newest_page layers page whole))
    ∙ ap (λ (k : ℕ). take (n * PAGE_SIZE) (drop (first * PAGE_SIZE) (flat_map f (range_with_len 0 k)))) e

-- ---- a range

-- the bytes that stand in these pages from a place on
pub range_read : (count first n offset len : ℕ) (layers : List Layer) (into out : Bytes) → AllByRecursion IsWhole layers → first + n ≤ count → first * PAGE_SIZE ≤ offset → offset + len ≤ (first + n) * PAGE_SIZE
    → into ≡ flat_map (page_from (reverse layers)) (range_with_len first n) → out ≡ take len (drop (offset - first * PAGE_SIZE) into) → out ≡ take len (drop offset (memory_from count layers))
range_read count first n offset len layers into out whole le begins ends read is =
    let memory : Bytes = memory_from count layers in
    let from = offset - first * PAGE_SIZE in
    let size : n * PAGE_SIZE ≡ from + (n * PAGE_SIZE - from) = omega (arith, begins, ends) in
    let fits : len ≤ n * PAGE_SIZE - from = omega (arith, begins, ends) in
    let starts : first * PAGE_SIZE + from ≡ offset = omega (arith, begins) in
    is
    ∙ ap (λ (bytes : Bytes). take len (drop from bytes)) (read ∙ pages_of_memory count first n layers whole le)
    ∙ ap (λ (m : ℕ). take len (drop from (take m (drop (first * PAGE_SIZE) memory)))) size
    ∙ ap (take len) (drop-take from (n * PAGE_SIZE - from) (drop (first * PAGE_SIZE) memory))
    ∙ take-take len (n * PAGE_SIZE - from) (drop from (drop (first * PAGE_SIZE) memory)) fits
    ∙ ap (take len) (drop-drop from (first * PAGE_SIZE) memory ∙ ap (λ (m : ℕ). drop m memory) starts)

-- how many pages there are
pub pages_long : (first behind : ℕ) (seen pages : List ℕ) → seen ≡ pages → pages ≡ range_with_len first (behind - first) → length seen ≡ behind - first
pages_long first behind seen pages same are = ap (λ (l : List ℕ). length l) (same ∙ are) ∙ length-range_with_len first (behind - first)

-- those that hold the bytes
pub held : (first behind holding : ℕ) (seen pages : List ℕ) → behind ≡ first + holding → seen ≡ pages → pages ≡ range_with_len first (behind - first) → PAGE_SIZE * length seen ≡ PAGE_SIZE * holding
held first behind holding seen pages count same are = omega (arith, count, pages_long first behind seen pages same are)

-- the memory has the bytes
pub within_memory : (o : Option (Bytes × ℕ)) (bytes : ℕ) (m : Bytes × ℕ) → IsSomeAnd o (λ m. bytes ≤ m.1 * PAGE_SIZE) → o ≡ Some m → bytes ≤ m.1 * PAGE_SIZE
within_memory o bytes m within of = subst (λ (o : Option (Bytes × ℕ)). IsSomeAnd o (λ m. bytes ≤ m.1 * PAGE_SIZE)) of within
