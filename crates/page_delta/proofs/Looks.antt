-- What trees have at a page, after a change of the nodes.
use Rattle.std.proofs.Common.{◌≡◌, ◌≢◌, inl, inr, ℕ, zero, suc, ◌/◌, ◌%◌, ◌^◌, ◌<◌, List, get_or, set, Option, Some, None, IsSome, refl, sym, ap, ◌∙◌, arith}
use Rattle.std.proofs.lemmas.Bool.{cases_eq, eq-eqb}
use Rattle.std.proofs.lemmas.List.{get_or-set_same, get_or-set_other}
use Rattle.page_delta.specs.Totals.{total}
use Rattle.page_delta.specs.Nodes.{node_at, child_in, entry_in, count_in, level_in, node_with_count, once, names, look}
use Rattle.page_delta.specs.Shared.{IsShared, SameLooks, Agrees, Differs}
use Rattle.page_delta.specs.declared.entry.Entry.{Entry}
use Rattle.page_delta.specs.declared.node.Node.{Node}
use Rattle.page_delta.specs.declared.node.Node.TheVariants.{Branch, Leaf}
use Rattle.page_delta.proofs.Sums.{total-has, total-two}
use Rattle.page_delta.proofs.Sharing.{some-none, cases-option, some-live, not-some, child-recounted, entry-recounted, named, child-named}
use Rattle.page_delta.proofs.Changes.{NodeList, SameBut, SetsChild, SetsEntry}

-- both lists have the same places at a key
abbrev pub SameAt : List (Option Node) → List (Option Node) → ℕ → Type 0
SameAt xs ys m =
    (d : ℕ) → (child_in (node_at ys m) d ≡ child_in (node_at xs m) d) × (entry_in (node_at ys m) d ≡ entry_in (node_at xs m) d)

pub look-option : (level : ℕ) (xs ys : List (Option Node)) (q : ℕ) (o : Option ℕ) → ((t : ℕ) → o ≡ Some t → look level ys (Some t) q ≡ look level xs (Some t) q) → look level ys o q ≡ look level xs o q
look-option level xs ys q None each = refl
look-option level xs ys q (Some t) each = each t refl

-- keys that lead to one another, and have the same places
pub look-agree : (Q : ℕ → Type 0) (xs ys : List (Option Node)) → ((m : ℕ) → Q m → SameAt xs ys m) → ((m d t : ℕ) → Q m → child_in (node_at xs m) d ≡ Some t → Q t) → (level m q : ℕ) → Q m → look level ys (Some m) q ≡ look level xs (Some m) q
look-agree Q xs ys same closed zero m q mine = (same m mine (q % 32)).1
look-agree Q xs ys same closed (suc level) m q mine =
    let digit = (q / 32 ^ suc level) % 32 in
    ap (λ (o : Option ℕ). look level ys o q) (same m mine digit).0 ∙ look-option level xs ys q (child_in (node_at xs m) digit) (λ t e. look-agree Q xs ys same closed level t q (closed m digit t mine e))

pub child-live : (xs : List (Option Node)) (counts hands loose : ℕ → ℕ) (k d t : ℕ) → IsShared xs counts hands loose → child_in (node_at xs k) d ≡ Some t → IsSome (node_at xs t)
child-live xs counts hands loose k d t s e =
    let pos = named xs k d t e in
    let count = s.counted t in
    elim (cases-option (node_at xs t)) [
      | inl gone ↦ absurd (let zero : count_in (node_at xs t) ≡ 0 = ap count_in gone in omega arith)
      | inr here ↦ some-live (node_at xs t) here.0 here.1
    ]

pub looks-recounted : (xs ys : List (Option Node)) (now : ℕ → ℕ) → ((m : ℕ) → node_at ys m ≡ node_with_count (node_at xs m) (now m)) → SameLooks xs ys
looks-recounted xs ys now each level m q live =
    look-agree (λ m. Unit {0}) xs ys (λ m _ d. (ap (λ o. child_in o d) (each m) ∙ child-recounted (node_at xs m) (now m) d, ap (λ o. entry_in o d) (each m) ∙ entry-recounted (node_at xs m) (now m) d)) (λ m d t _ e. tt) level m q tt

pub looks-insert : (xs ys : List (Option Node)) (counts hands loose : ℕ → ℕ) (key : ℕ) → IsShared xs counts hands loose → node_at xs key ≡ None → SameBut key xs ys → SameLooks xs ys
looks-insert xs ys counts hands loose key s gone rest level m q live =
    look-agree (λ m. IsSome (node_at xs m)) xs ys (λ m here d. let same = rest m (λ e. dead m here e) in (ap (λ o. child_in o d) same, ap (λ o. entry_in o d) same)) (λ m d t here e. child-live xs counts hands loose m d t s e) level m q live
  where
    dead : (m : ℕ) → IsSome (node_at xs m) → m ≡ key → ⊥
    dead m here e = elim (cases-option (node_at xs m)) [
      | inl none ↦ not-some (node_at xs m) none here
      | inr some ↦ some-none some.0 (sym some.1 ∙ ap (λ i. node_at xs i) e ∙ gone)
    ]

-- a branch has another child, whose tree has what the one before had
module _ (xs ys : NodeList) (key count tall d child : ℕ) (kids : List (Option ℕ)) (sets : SetsChild xs ys key count tall d child kids) (alike : (level q : ℕ) → look level xs (Some child) q ≡ look level xs (get_or kids d None) q) where
  pub looks-link : (level m q : ℕ) → look level ys (Some m) q ≡ look level xs (Some m) q
  looks-link zero m q = elim (cases_eq m key) [
    | inl same ↦ ap (λ o. entry_in o (q % 32)) (ap (λ i. node_at ys i) same ∙ sets.now) ∙ sym (ap (λ o. entry_in o (q % 32)) (ap (λ i. node_at xs i) same ∙ sets.here))
    | inr ne ↦ ap (λ o. entry_in o (q % 32)) (sets.rest m ne)
  ]
  looks-link (suc level) m q =
      let digit = (q / 32 ^ suc level) % 32 in
      elim (cases_eq m key) [
        | inl same ↦
            let old : child_in (node_at xs m) digit ≡ get_or kids digit None = ap (λ o. child_in o digit) (ap (λ i. node_at xs i) same ∙ sets.here) in
            let new : child_in (node_at ys m) digit ≡ get_or (set kids d (Some child)) digit None = ap (λ o. child_in o digit) (ap (λ i. node_at ys i) same ∙ sets.now) in
            ap (λ (o : Option ℕ). look level ys o q) new ∙ elim (cases_eq digit d) [
              | inl at ↦ ap (λ (o : Option ℕ). look level ys o q) (ap (λ i. get_or (set kids d (Some child)) i None) at ∙ get_or-set_same kids d (Some child) None sets.below)
                  ∙ looks-link level child q ∙ alike level q ∙ ap (λ (o : Option ℕ). look level xs o q) (ap (λ i. get_or kids i None) (sym at) ∙ sym old)
              | inr far ↦ ap (λ (o : Option ℕ). look level ys o q) (get_or-set_other kids d digit (Some child) None far) ∙ look-option level xs ys q (get_or kids digit None) (λ t e. looks-link level t q) ∙ ap (λ (o : Option ℕ). look level xs o q) (sym old)
            ]
        | inr ne ↦ ap (λ (o : Option ℕ). look level ys o q) (ap (λ o. child_in o digit) (sets.rest m ne)) ∙ look-option level xs ys q (child_in (node_at xs m) digit) (λ t e. looks-link level t q)
      ]

two-children : (o : Option Node) (n d e : ℕ) → d ≢ e → child_in o d ≡ Some n → child_in o e ≡ Some n → 1 < names n o
two-children None n d e ne a b = absurd (some-none n (sym a))
two-children (Some (Branch c l kids)) n d e ne a b =
    let two = total-two (once n) refl kids d e ne in
    let first : once n (get_or kids d None) ≡ once n (Some n) = ap (once n) a in
    let second : once n (get_or kids e None) ≡ once n (Some n) = ap (once n) b in
    let mine = one-self n in omega arith
  where
    one-self : (n : ℕ) → once n (Some n) ≡ 1
    one-self n = rw (eq-eqb n n refl) refl
two-children (Some (Leaf c es)) n d e ne a b = absurd (some-none n (sym a))

-- a node that is named once has one parent, and one place there
pub only-namer : (xs : List (Option Node)) (n k d k' d' : ℕ) → total (names n) xs ≡ 1 → child_in (node_at xs k) d ≡ Some n → child_in (node_at xs k') d' ≡ Some n → (k ≡ k') × (d ≡ d')
only-namer xs n k d k' d' once_named a b =
    let first = child-named (node_at xs k) d n a in
    let second = child-named (node_at xs k') d' n b in
    elim (cases_eq k k') [
      | inl same ↦ elim (cases_eq d d') [
        | inl at ↦ (same, at)
        | inr far ↦ absurd (let two = two-children (node_at xs k) n d d' far a (ap (λ i. child_in (node_at xs i) d') same ∙ b) in let has = total-has (names n) refl xs k in omega arith)
      ]
      | inr ne ↦ absurd (let two = total-two (names n) refl xs k k' ne in omega arith)
    ]

module _ (xs ys : List (Option Node)) (counts hands loose : ℕ → ℕ) (p : ℕ) (e : Entry) (s : IsShared xs counts hands loose) (same : (m d : ℕ) → child_in (node_at ys m) d ≡ child_in (node_at xs m) d) where
  pub differs-above : (level n up : ℕ) → Differs level xs ys n p e → child_in (node_at xs up) ((p / 32 ^ suc level) % 32) ≡ Some n → total (names n) xs ≡ 1 → level_in (node_at xs up) ≡ suc level → Differs (suc level) xs ys up p e
  differs-above level n up below child once_named high = record {
    there = λ q agrees.
        let at : child_in (node_at ys up) ((q / 32 ^ suc level) % 32) ≡ Some n = same up ((q / 32 ^ suc level) % 32) ∙ ap (λ d. child_in (node_at xs up) d) (sym agrees.0) ∙ child in
        ap (λ (o : Option ℕ). look level ys o q) at ∙ below.there q agrees.1;
    apart = λ q no. elim (cases_eq ((p / 32 ^ suc level) % 32) ((q / 32 ^ suc level) % 32)) [
      | inl digit ↦
          let old : child_in (node_at xs up) ((q / 32 ^ suc level) % 32) ≡ Some n = ap (λ d. child_in (node_at xs up) d) (sym digit) ∙ child in
          ap (λ (o : Option ℕ). look level ys o q) (same up ((q / 32 ^ suc level) % 32) ∙ old) ∙ below.apart q (λ agrees. no (digit, agrees)) ∙ ap (λ (o : Option ℕ). look level xs o q) (sym old)
      | inr far ↦
          ap (λ (o : Option ℕ). look level ys o q) (same up ((q / 32 ^ suc level) % 32)) ∙ look-option level xs ys q (child_in (node_at xs up) ((q / 32 ^ suc level) % 32)) (λ t is.
          let step = s.steps up ((q / 32 ^ suc level) % 32) t is in
          below.others t q (omega arith) (child-live xs counts hands loose up ((q / 32 ^ suc level) % 32) t s is) (λ eq. far (only-namer xs n up ((p / 32 ^ suc level) % 32) up ((q / 32 ^ suc level) % 32) once_named child (is ∙ ap (λ i. Some i) eq)).1))
    ];
    others = λ m q deep live ne.
        ap (λ (o : Option ℕ). look level ys o q) (same m ((q / 32 ^ suc level) % 32)) ∙ look-option level xs ys q (child_in (node_at xs m) ((q / 32 ^ suc level) % 32)) (λ t is.
        let step = s.steps m ((q / 32 ^ suc level) % 32) t is in
        below.others t q (omega arith) (child-live xs counts hands loose m ((q / 32 ^ suc level) % 32) t s is) (λ eq. ne (only-namer xs n m ((q / 32 ^ suc level) % 32) up ((p / 32 ^ suc level) % 32) once_named (is ∙ ap (λ i. Some i) eq) child).0));
  }

-- an entry comes to a leaf
pub differs-leaf : (xs ys : NodeList) (key count p : ℕ) (entry : Entry) (es : List (Option Entry)) → SetsEntry xs ys key count (p % 32) entry es → Differs 0 xs ys key p entry
differs-leaf xs ys key count p entry es sets = record {
  there = λ q agrees. ap (λ o. entry_in o (q % 32)) sets.now ∙ ap (λ i. get_or (set es (p % 32) (Some entry)) i None) (sym agrees) ∙ get_or-set_same es (p % 32) (Some entry) None sets.below;
  apart = λ q no. ap (λ o. entry_in o (q % 32)) sets.now ∙ get_or-set_other es (p % 32) (q % 32) (Some entry) None (λ e. no (sym e)) ∙ sym (ap (λ o. entry_in o (q % 32)) sets.here);
  others = λ m q deep live ne. ap (λ o. entry_in o (q % 32)) (sets.rest m ne);
}

-- pages below 2^20 are their four digits
pub digits : (p q : ℕ) → p < 2 ^ 20 → q < 2 ^ 20 → Agrees 3 p q → p ≡ q
digits p q low small agrees =
    let a : p / 32768 % 32 ≡ q / 32768 % 32 = agrees.0 in
    let b : p / 1024 % 32 ≡ q / 1024 % 32 = agrees.1.0 in
    let c : p / 32 % 32 ≡ q / 32 % 32 = agrees.1.1.0 in
    let d : p % 32 ≡ q % 32 = agrees.1.1.1 in
    omega arith
