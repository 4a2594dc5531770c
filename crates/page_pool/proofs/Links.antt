-- The chain of free slots, and the count of the used ones.
use Rattle.std.proofs.Common.{◌≡◌, ◌≢◌, ℕ, zero, suc, ◌+◌, ◌<◌, ◌≤◌, List, [], ◌∷◌, ◌++◌, length, get_or, set, Option, Some, None, refl, sym, ap, subst, ◌∙◌, arith, length-set, length-append}
use Rattle.std.proofs.lemmas.List.{get_or-set_other}
use Rattle.page_pool.specs.Pool.{Page, used_in}
use Rattle.page_pool.specs.Chains.{IsChain}
use Rattle.format_spec.proofs.Lists.{none_or_some, some_once}

pub link-within : (links : List (Option ℕ)) (k next : ℕ) → get_or links k None ≡ Some next → k < length links
link-within [] k next is = absurd (none_or_some next None refl is)
link-within (x ∷ links) zero next is = omega arith
link-within (x ∷ links) (suc k) next is = let below = link-within links k next is in omega arith

-- from one index there is one chain
pub one-chain : (links : List (Option ℕ)) (m n k : ℕ) → IsChain links m k → IsChain links n k → m ≡ n
one-chain links zero zero k p q = refl
one-chain links zero (suc n) k p q = absurd (let low = link-within links k q.0 q.1 in omega arith)
one-chain links (suc m) zero k p q = absurd (let low = link-within links k p.0 p.1 in omega arith)
one-chain links (suc m) (suc n) k p q =
    let e = some_once p.0 q.0 (get_or links k None) p.1 q.1 in
    ap suc (one-chain links m n q.0 (subst (λ i. IsChain links m i) e p.2) q.2)

-- no chain begins at a used slot
pub no-chain : (links : List (Option ℕ)) (m k : ℕ) → k < length links → get_or links k None ≡ None → IsChain links m k → ⊥
no-chain links zero k below none chain = omega arith
no-chain links (suc m) k below none chain = none_or_some chain.0 (get_or links k None) none chain.1

-- a write at a slot that the chain does not meet keeps it
pub chain-set : (links : List (Option ℕ)) (h : ℕ) (now : Option ℕ) (n k : ℕ) → ((m : ℕ) → m ≤ n → IsChain links m h → ⊥) → IsChain links n k → IsChain (set links h now) n k
chain-set links h now zero k apart chain = chain ∙ sym (length-set links h now)
chain-set links h now (suc n) k apart chain =
    let other : k ≢ h = λ e. apart (suc n) (omega arith) (subst (λ i. IsChain links (suc n) i) e chain) in
    (chain.0, get_or-set_other links h k now None other ∙ chain.1, chain-set links h now n chain.0 (λ m le. apart m (omega arith)) chain.2)

read-before : {X : Type 0} (xs : List (Option X)) (last : Option X) (k : ℕ) → k < length xs → get_or (xs ++ last ∷ []) k None ≡ get_or xs k None
read-before [] last k below = absurd (omega arith)
read-before (x ∷ xs) last zero below = refl
read-before (x ∷ xs) last (suc k) below = read-before xs last k (omega arith)

read-last : {X : Type 0} (xs : List (Option X)) (last : Option X) → get_or (xs ++ last ∷ []) (length xs) None ≡ last
read-last [] last = refl
read-last (x ∷ xs) last = read-last xs last

-- a free slot at the end joins the chain at its end
pub chain-push : (links : List (Option ℕ)) (n k next : ℕ) → next ≡ length links + 1 → IsChain links n k → IsChain (links ++ Some next ∷ []) (suc n) k
chain-push links zero k next end chain =
    (next, ap (λ i. get_or (links ++ Some next ∷ []) i None) chain ∙ read-last links (Some next), omega (arith, length-append links (Some next ∷ [])))
chain-push links (suc n) k next end chain =
    (chain.0, read-before links (Some next) k (link-within links k chain.0 chain.1) ∙ chain.1, chain-push links n chain.0 next end chain.2)

abbrev pub one_if : Option Page → ℕ
one_if None = 0
one_if (Some page) = 1

pub used-set : (pages : List (Option Page)) (k : ℕ) (now : Option Page) → k < length pages → used_in (set pages k now) + one_if (get_or pages k None) ≡ used_in pages + one_if now
used-set [] k now below = absurd (omega arith)
used-set (None ∷ pages) zero None below = refl
used-set (None ∷ pages) zero (Some page) below = omega arith
used-set (Some old ∷ pages) zero None below = omega arith
used-set (Some old ∷ pages) zero (Some page) below = refl
used-set (None ∷ pages) (suc k) now below = used-set pages k now (omega arith)
used-set (Some old ∷ pages) (suc k) now below = omega (arith, used-set pages k now (omega arith))

pub used-push : (pages : List (Option Page)) → used_in (pages ++ None ∷ []) ≡ used_in pages
used-push [] = refl
used-push (None ∷ pages) = used-push pages
used-push (Some page ∷ pages) = ap suc (used-push pages)
