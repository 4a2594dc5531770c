-- What a change of the nodes keeps.
use Rattle.std.proofs.Common.{◌≡◌, ◌≢◌, ◌⊎◌, inl, inr, ℕ, ◌+◌, ◌<◌, List, get_or, set, Option, Some, None, IsSome, cond, eqb, true, false, refl, sym, ap, subst, ◌∙◌, arith, length-set}
use Rattle.std.proofs.lemmas.Bool.{eq-eqb, eqb-true, cases_eq, cases_Bool}
use Rattle.std.proofs.lemmas.List.{get_or-set_same, get_or-set_other}
use Rattle.page_delta.specs.Totals.{total}
use Rattle.page_delta.specs.Delta.{uses}
use Rattle.page_delta.specs.Nodes.{node_at, child_in, entry_in, count_in, level_in, node_with_count, width, once, names}
use Rattle.page_delta.specs.Shared.{slots_in, IsShared}
use Rattle.page_delta.specs.declared.entry.Entry.{Entry}
use Rattle.page_delta.specs.declared.node.Node.{Node}
use Rattle.page_delta.specs.declared.node.Node.TheVariants.{Branch, Leaf}
use Rattle.page_delta.proofs.Sums.{total-same, total-moved, total-has}
use Rattle.page_delta.proofs.Changes.{NodeList, Recounts, SameBut, Puts, MayStand, SetsChild, SetsEntry}

pub some-none : {X : Type 0} (x : X) → Some x ≡ None → ⊥
some-none x e = cc

pub not-some : {X : Type 0} (o : Option X) → o ≡ None → IsSome o → ⊥
not-some None e live = (let no : false ≡ true = live in let bad : ⊥ = cc in bad)
not-some (Some x) e live = some-none x e

pub cases-option : {X : Type 0} (o : Option X) → (o ≡ None) ⊎ ((x : X) × (o ≡ Some x))
cases-option None = inl refl
cases-option (Some x) = inr (x, refl)

pub some-live : {X : Type 0} (o : Option X) (x : X) → o ≡ Some x → IsSome o
some-live None x e = absurd (some-none x (sym e))
some-live (Some y) x e = refl

-- what a recount leaves
pub child-recounted : (o : Option Node) (c d : ℕ) → child_in (node_with_count o c) d ≡ child_in o d
child-recounted None c d = refl
child-recounted (Some (Branch count level kids)) c d = refl
child-recounted (Some (Leaf count es)) c d = refl

pub entry-recounted : (o : Option Node) (c d : ℕ) → entry_in (node_with_count o c) d ≡ entry_in o d
entry-recounted None c d = refl
entry-recounted (Some (Branch count level kids)) c d = refl
entry-recounted (Some (Leaf count es)) c d = refl

pub level-recounted : (o : Option Node) (c : ℕ) → level_in (node_with_count o c) ≡ level_in o
level-recounted None c = refl
level-recounted (Some (Branch count level kids)) c = refl
level-recounted (Some (Leaf count es)) c = refl

pub names-recounted : (m : ℕ) (o : Option Node) (c : ℕ) → names m (node_with_count o c) ≡ names m o
names-recounted m None c = refl
names-recounted m (Some (Branch count level kids)) c = refl
names-recounted m (Some (Leaf count es)) c = refl

pub slots-recounted : (s : ℕ) (o : Option Node) (c : ℕ) → slots_in s (node_with_count o c) ≡ slots_in s o
slots-recounted s None c = refl
slots-recounted s (Some (Branch count level kids)) c = refl
slots-recounted s (Some (Leaf count es)) c = refl

branch-recounted : (o : Option Node) (c count level : ℕ) (kids : List (Option ℕ)) → node_with_count o c ≡ Some (Branch count level kids) → (before : ℕ) × (o ≡ Some (Branch before level kids))
branch-recounted None c count level kids e = absurd (some-none (Branch count level kids) (sym e))
branch-recounted (Some (Branch b l ks)) c count level kids e =
    (b, (let el : l ≡ level = cc in let ek : ks ≡ kids = cc in ap (λ (k : List (Option ℕ)). Some (Branch b l k)) ek ∙ ap (λ (n : ℕ). Some (Branch b n kids)) el))
branch-recounted (Some (Leaf b es)) c count level kids e = absurd (let no : ⊥ = cc in no)

width-recounted : (o : Option Node) (c : ℕ) (node : Node) → node_with_count o c ≡ Some node → (before : Node) × (o ≡ Some before) × (width node ≡ width before)
width-recounted None c node e = absurd (some-none node (sym e))
width-recounted (Some (Branch b l ks)) c node e =
    (Branch b l ks, refl, ap width (let same : node ≡ Branch c l ks = cc in same))
width-recounted (Some (Leaf b es)) c node e =
    (Leaf b es, refl, ap width (let same : node ≡ Leaf c es = cc in same))

-- counts change, and what is in hand with them
pub shared-recounted : (xs ys : List (Option Node)) (counts hands hands' loose now : ℕ → ℕ) → IsShared xs counts hands loose → Recounts xs ys now
    → ((m : ℕ) → IsSome (node_at xs m) → now m + hands m ≡ count_in (node_at xs m) + hands' m) → ((m : ℕ) → node_at xs m ≡ None → hands' m ≡ 0)
    → ((m : ℕ) → IsSome (node_at xs m) → 0 < now m) → IsShared ys counts hands' loose
shared-recounted xs ys counts hands hands' loose now s each moved none some =
    let names_same : (m : ℕ) → total (names m) ys ≡ total (names m) xs = λ m. total-same (names m) refl xs ys (λ k. ap (names m) (each k) ∙ names-recounted m (node_at xs k) (now k)) in
    record {
      steps = λ key d child e.
          let old = sym (ap (λ o. child_in o d) (each key) ∙ child-recounted (node_at xs key) (now key) d) ∙ e in
          ap level_in (each key) ∙ level-recounted (node_at xs key) (now key) ∙ s.steps key d child old ∙ ap (λ n. n + 1) (sym (ap level_in (each child) ∙ level-recounted (node_at xs child) (now child)));
      tall = λ key count level kids e. let old = branch-recounted (node_at xs key) (now key) count level kids (sym (each key) ∙ e) in s.tall key old.0 level kids old.1;
      wide = λ key node e. let old = width-recounted (node_at xs key) (now key) node (sym (each key) ∙ e) in old.2 ∙ s.wide key old.0 old.1;
      flat = λ key. let same = ap level_in (each key) ∙ level-recounted (node_at xs key) (now key) in let low = s.flat key in omega arith;
      alive = λ key live. elim (cases-option (node_at xs key)) [
        | inl gone ↦ absurd (not-some (node_at ys key) (each key ∙ ap (λ o. node_with_count o (now key)) gone) live)
        | inr here ↦
            let pos = some key (some-live (node_at xs key) here.0 here.1) in
            let is : count_in (node_at ys key) ≡ now key = ap count_in (each key ∙ ap (λ o. node_with_count o (now key)) here.1) ∙ count-now here.0 (now key) in
            omega arith
      ];
      counted = λ key. elim (cases-option (node_at xs key)) [
        | inl gone ↦
            let before = s.counted key in let same = names_same key in let zero = none key gone in
            let was : count_in (node_at xs key) ≡ 0 = ap count_in gone in
            let is : count_in (node_at ys key) ≡ 0 = ap count_in (each key ∙ ap (λ o. node_with_count o (now key)) gone) in
            omega arith
        | inr here ↦
            let before = s.counted key in let same = names_same key in
            let move = moved key (some-live (node_at xs key) here.0 here.1) in
            let is : count_in (node_at ys key) ≡ now key = ap count_in (each key ∙ ap (λ o. node_with_count o (now key)) here.1) ∙ count-now here.0 (now key) in
            omega arith
      ];
      held = λ slot. s.held slot ∙ ap (λ n. loose slot + n) (sym (total-same (slots_in slot) refl xs ys (λ k. ap (slots_in slot) (each k) ∙ slots-recounted slot (node_at xs k) (now k))));
    }
  where
    count-now : (node : Node) (c : ℕ) → count_in (node_with_count (Some node) c) ≡ c
    count-now (Branch b l ks) c = refl
    count-now (Leaf b es) c = refl

once-named : (m : ℕ) (os : List (Option ℕ)) (d : ℕ) → get_or os d None ≡ Some m → 0 < once m (get_or os d None)
once-named m os d e = rw (e, eq-eqb m m refl) (omega arith)

pub child-named : (o : Option Node) (d m : ℕ) → child_in o d ≡ Some m → 0 < names m o
child-named None d m e = absurd (some-none m (sym e))
child-named (Some (Branch b l ks)) d m e =
    let one = once-named m ks d e in let has = total-has (once m) refl ks d in omega arith
child-named (Some (Leaf b es)) d m e = absurd (some-none m (sym e))

-- a child is named
pub named : (xs : List (Option Node)) (k d m : ℕ) → child_in (node_at xs k) d ≡ Some m → 0 < total (names m) xs
named xs k d m e =
    let one = child-named (node_at xs k) d m e in let has = total-has (names m) refl xs k in omega arith

abbrev pub one : ℕ → ℕ → ℕ
one key m = cond (eqb key m) 1 0

pub one-same : (key m : ℕ) → m ≡ key → one key m ≡ 1
one-same key m e = rw (eq-eqb key m (sym e)) refl

pub one-other : (key m : ℕ) → m ≢ key → one key m ≡ 0
one-other key m ne = elim (cases_Bool (eqb key m)) [ inl h ↦ absurd (ne (sym (eqb-true key m h))) | inr h ↦ rw h refl ]

-- a key of no node isn't named
pub fresh-not-named : (xs : List (Option Node)) (counts hands loose : ℕ → ℕ) (key : ℕ) → IsShared xs counts hands loose → node_at xs key ≡ None → (hands key ≡ 0) × (total (names key) xs ≡ 0)
fresh-not-named xs counts hands loose key s gone =
    let count = s.counted key in let zero : count_in (node_at xs key) ≡ 0 = ap count_in gone in (omega arith, omega arith)

-- what the places of a new node name is handed to it
module _ (xs ys : NodeList) (counts hands loose : ℕ → ℕ) (key : ℕ) (node : Node) (s : IsShared xs counts (λ m. hands m + names m (Some node)) (λ slot. loose slot + slots_in slot (Some node))) (puts : Puts xs ys key node) (may : MayStand xs node) where
  not_named : (hands key + names key (Some node) ≡ 0) × (total (names key) xs ≡ 0)
  not_named = fresh-not-named xs counts (λ m. hands m + names m (Some node)) (λ slot. loose slot + slots_in slot (Some node)) key s puts.gone

  level_kept : (d c k : ℕ) → child_in (node_at xs k) d ≡ Some c → level_in (node_at ys c) ≡ level_in (node_at xs c)
  level_kept d c k e = ap level_in (puts.rest c (λ same. let pos = named xs k d c e in let zero : total (names c) xs ≡ 0 = ap (λ m. total (names m) xs) same ∙ not_named.1 in omega arith))

  level_mine : (d c : ℕ) → child_in (Some node) d ≡ Some c → level_in (node_at ys c) ≡ level_in (node_at xs c)
  level_mine d c e = ap level_in (puts.rest c (λ same. let pos = child-named (Some node) d c e in let zero : hands c + names c (Some node) ≡ 0 = ap (λ m. hands m + names m (Some node)) same ∙ not_named.0 in omega arith))

  pub shared-insert : IsShared ys counts (λ m. hands m + one key m) loose
  shared-insert = record {
    steps = λ k d c e. elim (cases_eq k key) [
      | inl same ↦
          let mine : child_in (Some node) d ≡ Some c = sym (ap (λ o. child_in o d) (ap (λ i. node_at ys i) same ∙ puts.here)) ∙ e in
          ap level_in (ap (λ i. node_at ys i) same ∙ puts.here) ∙ may.step d c mine ∙ ap (λ n. n + 1) (sym (level_mine d c mine))
      | inr ne ↦
          let old : child_in (node_at xs k) d ≡ Some c = sym (ap (λ o. child_in o d) (puts.rest k ne)) ∙ e in
          ap level_in (puts.rest k ne) ∙ s.steps k d c old ∙ ap (λ n. n + 1) (sym (level_kept d c k old))
    ];
    tall = λ k count level kids e. elim (cases_eq k key) [
      | inl same ↦ may.high count level kids (let both : Some node ≡ Some (Branch count level kids) = sym (ap (λ i. node_at ys i) same ∙ puts.here) ∙ e in cc)
      | inr ne ↦ s.tall k count level kids (sym (puts.rest k ne) ∙ e)
    ];
    wide = λ k n e. elim (cases_eq k key) [
      | inl same ↦ ap width (let both : Some n ≡ Some node = sym e ∙ ap (λ i. node_at ys i) same ∙ puts.here in let eq : n ≡ node = cc in eq) ∙ may.wide
      | inr ne ↦ s.wide k n (sym (puts.rest k ne) ∙ e)
    ];
    flat = λ k. elim (cases_eq k key) [
      | inl same ↦ let is : level_in (node_at ys k) ≡ level_in (Some node) = ap level_in (ap (λ i. node_at ys i) same ∙ puts.here) in omega (arith, may.flat)
      | inr ne ↦ let is : level_in (node_at ys k) ≡ level_in (node_at xs k) = ap level_in (puts.rest k ne) in let low = s.flat k in omega arith
    ];
    alive = λ k live. elim (cases_eq k key) [
      | inl same ↦ let is : count_in (node_at ys k) ≡ 1 = ap count_in (ap (λ i. node_at ys i) same ∙ puts.here) ∙ may.once in omega arith
      | inr ne ↦ let is : count_in (node_at ys k) ≡ count_in (node_at xs k) = ap count_in (puts.rest k ne) in let pos = s.alive k (subst (λ (o : Option Node). IsSome o) (puts.rest k ne) live) in omega arith
    ];
    counted = λ m.
        let before = s.counted m in
        let moved = total-moved (names m) refl xs ys key (λ k ne. ap (names m) (puts.rest k ne)) in
        let was : names m (node_at xs key) ≡ 0 = ap (names m) puts.gone in
        let is : names m (node_at ys key) ≡ names m (Some node) = ap (names m) puts.here in
        elim (cases_eq m key) [
          | inl same ↦
              let one_is = one-same key m same in
              let zero : hands m + names m (Some node) ≡ 0 = ap (λ i. hands i + names i (Some node)) same ∙ not_named.0 in
              let none : total (names m) xs ≡ 0 = ap (λ i. total (names i) xs) same ∙ not_named.1 in
              let count : count_in (node_at ys m) ≡ 1 = ap count_in (ap (λ i. node_at ys i) same ∙ puts.here) ∙ may.once in
              omega arith
          | inr ne ↦
              let one_is = one-other key m ne in
              let count : count_in (node_at ys m) ≡ count_in (node_at xs m) = ap count_in (puts.rest m ne) in
              omega arith
        ];
    held = λ slot.
        let before = s.held slot in
        let moved = total-moved (slots_in slot) refl xs ys key (λ k ne. ap (slots_in slot) (puts.rest k ne)) in
        let was : slots_in slot (node_at xs key) ≡ 0 = ap (slots_in slot) puts.gone in
        let is : slots_in slot (node_at ys key) ≡ slots_in slot (Some node) = ap (slots_in slot) puts.here in
        omega arith;
  }

-- a node that is counted once, in hand, is removed: what its places name is in hand
module _ (xs ys : NodeList) (counts hands loose : ℕ → ℕ) (key : ℕ) (node : Node) (s : IsShared xs counts (λ m. hands m + one key m) loose) (here : node_at xs key ≡ Some node) (gone : node_at ys key ≡ None) (rest : SameBut key xs ys) (counted_once : count_in (Some node) ≡ 1) where
  not_else : (hands key ≡ 0) × (total (names key) xs ≡ 0)
  not_else =
      let count = s.counted key in
      let is : count_in (node_at xs key) ≡ 1 = ap count_in here ∙ counted_once in
      let mine = one-same key key refl in
      (omega arith, omega arith)

  pub kept_child : (k d c : ℕ) → child_in (node_at xs k) d ≡ Some c → node_at ys c ≡ node_at xs c
  kept_child k d c e = rest c (λ same. let pos = named xs k d c e in let zero : total (names c) xs ≡ 0 = ap (λ m. total (names m) xs) same ∙ not_else.1 in omega arith)

  pub shared-remove : IsShared ys counts (λ m. hands m + names m (Some node)) (λ slot. loose slot + slots_in slot (Some node))
  shared-remove = record {
    steps = λ k d c e. elim (cases_eq k key) [
      | inl same ↦ absurd (some-none c (sym e ∙ ap (λ o. child_in o d) (ap (λ i. node_at ys i) same ∙ gone)))
      | inr ne ↦
          let old : child_in (node_at xs k) d ≡ Some c = sym (ap (λ o. child_in o d) (rest k ne)) ∙ e in
          ap level_in (rest k ne) ∙ s.steps k d c old ∙ ap (λ n. n + 1) (sym (ap level_in (kept_child k d c old)))
    ];
    tall = λ k count level kids e. elim (cases_eq k key) [
      | inl same ↦ absurd (some-none (Branch count level kids) (sym e ∙ ap (λ i. node_at ys i) same ∙ gone))
      | inr ne ↦ s.tall k count level kids (sym (rest k ne) ∙ e)
    ];
    wide = λ k n e. elim (cases_eq k key) [
      | inl same ↦ absurd (some-none n (sym e ∙ ap (λ i. node_at ys i) same ∙ gone))
      | inr ne ↦ s.wide k n (sym (rest k ne) ∙ e)
    ];
    flat = λ k. elim (cases_eq k key) [
      | inl same ↦ let is : level_in (node_at ys k) ≡ 0 = ap level_in (ap (λ i. node_at ys i) same ∙ gone) in omega arith
      | inr ne ↦ let is : level_in (node_at ys k) ≡ level_in (node_at xs k) = ap level_in (rest k ne) in let low = s.flat k in omega arith
    ];
    alive = λ k live. elim (cases_eq k key) [
      | inl same ↦ absurd (not-some (node_at ys k) (ap (λ i. node_at ys i) same ∙ gone) live)
      | inr ne ↦ let is : count_in (node_at ys k) ≡ count_in (node_at xs k) = ap count_in (rest k ne) in let pos = s.alive k (subst (λ (o : Option Node). IsSome o) (rest k ne) live) in omega arith
    ];
    counted = λ m.
        let before = s.counted m in
        let moved = total-moved (names m) refl xs ys key (λ k ne. ap (names m) (rest k ne)) in
        let was : names m (node_at xs key) ≡ names m (Some node) = ap (names m) here in
        let is : names m (node_at ys key) ≡ 0 = ap (names m) gone in
        elim (cases_eq m key) [
          | inl same ↦
              let zero : hands m ≡ 0 = ap hands same ∙ not_else.0 in
              let none : total (names m) xs ≡ 0 = ap (λ i. total (names i) xs) same ∙ not_else.1 in
              let count : count_in (node_at ys m) ≡ 0 = ap count_in (ap (λ i. node_at ys i) same ∙ gone) in
              omega arith
          | inr ne ↦
              let one_is = one-other key m ne in
              let count : count_in (node_at ys m) ≡ count_in (node_at xs m) = ap count_in (rest m ne) in
              omega arith
        ];
    held = λ slot.
        let before = s.held slot in
        let moved = total-moved (slots_in slot) refl xs ys key (λ k ne. ap (slots_in slot) (rest k ne)) in
        let was : slots_in slot (node_at xs key) ≡ slots_in slot (Some node) = ap (slots_in slot) here in
        let is : slots_in slot (node_at ys key) ≡ 0 = ap (slots_in slot) gone in
        omega arith;
  }

-- a node in hand becomes the child of a branch, and the child before is in hand
module _ (xs ys : NodeList) (counts hands loose : ℕ → ℕ) (key count level d child : ℕ) (kids : List (Option ℕ)) (s : IsShared xs counts (λ m. hands m + one child m) loose) (sets : SetsChild xs ys key count level d child kids) (fits : level ≡ level_in (node_at xs child) + 1) where
  level_same : (m : ℕ) → level_in (node_at ys m) ≡ level_in (node_at xs m)
  level_same m = elim (cases_eq m key) [
    | inl same ↦ ap level_in (ap (λ i. node_at ys i) same ∙ sets.now) ∙ sym (ap level_in (ap (λ i. node_at xs i) same ∙ sets.here))
    | inr ne ↦ ap level_in (sets.rest m ne)
  ]

  pub shared-link : IsShared ys counts (λ m. hands m + once m (get_or kids d None)) loose
  shared-link = record {
    steps = λ k e c is. elim (cases_eq k key) [
      | inl same ↦
          let mine : get_or (set kids d (Some child)) e None ≡ Some c = sym (ap (λ o. child_in o e) (ap (λ i. node_at ys i) same ∙ sets.now)) ∙ is in
          let level_is : level_in (node_at ys k) ≡ level = ap level_in (ap (λ i. node_at ys i) same ∙ sets.now) in
          elim (cases_eq e d) [
            | inl at ↦
                let eq : child ≡ c = (let both : Some child ≡ Some c = sym (ap (λ i. get_or (set kids d (Some child)) i None) at ∙ get_or-set_same kids d (Some child) None sets.below) ∙ mine in cc) in
                level_is ∙ fits ∙ ap (λ n. level_in (node_at xs n) + 1) eq ∙ ap (λ n. n + 1) (sym (level_same c))
            | inr far ↦
                let old : child_in (node_at xs key) e ≡ Some c = ap (λ o. child_in o e) sets.here ∙ sym (get_or-set_other kids d e (Some child) None far) ∙ mine in
                level_is ∙ sym (ap level_in sets.here) ∙ s.steps key e c old ∙ ap (λ n. n + 1) (sym (level_same c))
          ]
      | inr ne ↦
          let old : child_in (node_at xs k) e ≡ Some c = sym (ap (λ o. child_in o e) (sets.rest k ne)) ∙ is in
          ap level_in (sets.rest k ne) ∙ s.steps k e c old ∙ ap (λ n. n + 1) (sym (level_same c))
    ];
    tall = λ k n l ks e. elim (cases_eq k key) [
      | inl same ↦
          let both : Some (Branch count level (set kids d (Some child))) ≡ Some (Branch n l ks) = sym (ap (λ i. node_at ys i) same ∙ sets.now) ∙ e in
          let eq : level ≡ l = cc in subst (λ i. 0 < i) eq (s.tall key count level kids sets.here)
      | inr ne ↦ s.tall k n l ks (sym (sets.rest k ne) ∙ e)
    ];
    wide = λ k n e. elim (cases_eq k key) [
      | inl same ↦
          let both : Some n ≡ Some (Branch count level (set kids d (Some child))) = sym e ∙ ap (λ i. node_at ys i) same ∙ sets.now in
          let eq : n ≡ Branch count level (set kids d (Some child)) = cc in
          ap width eq ∙ length-set kids d (Some child) ∙ s.wide key (Branch count level kids) sets.here
      | inr ne ↦ s.wide k n (sym (sets.rest k ne) ∙ e)
    ];
    flat = λ k. let is = level_same k in let low = s.flat k in omega arith;
    alive = λ k live. elim (cases_eq k key) [
      | inl same ↦
          let is : count_in (node_at ys k) ≡ count_in (node_at xs k) = ap count_in (ap (λ i. node_at ys i) same ∙ sets.now) ∙ sym (ap count_in (ap (λ i. node_at xs i) same ∙ sets.here)) in
          let pos = s.alive k (some-live (node_at xs k) (Branch count level kids) (ap (λ i. node_at xs i) same ∙ sets.here)) in omega arith
      | inr ne ↦ let is : count_in (node_at ys k) ≡ count_in (node_at xs k) = ap count_in (sets.rest k ne) in let pos = s.alive k (subst (λ (o : Option Node). IsSome o) (sets.rest k ne) live) in omega arith
    ];
    counted = λ m.
        let before = s.counted m in
        let moved = total-moved (names m) refl xs ys key (λ k ne. ap (names m) (sets.rest k ne)) in
        let was : names m (node_at xs key) ≡ total (once m) kids = ap (names m) sets.here in
        let is : names m (node_at ys key) ≡ total (once m) (set kids d (Some child)) = ap (names m) sets.now in
        let inner = total-moved (once m) refl kids (set kids d (Some child)) d (λ k ne. ap (once m) (get_or-set_other kids d k (Some child) None ne)) in
        let placed : once m (get_or (set kids d (Some child)) d None) ≡ one child m = ap (once m) (get_or-set_same kids d (Some child) None sets.below) in
        let count_same : count_in (node_at ys m) ≡ count_in (node_at xs m) = elim (cases_eq m key) [
          | inl same ↦ ap count_in (ap (λ i. node_at ys i) same ∙ sets.now) ∙ sym (ap count_in (ap (λ i. node_at xs i) same ∙ sets.here))
          | inr ne ↦ ap count_in (sets.rest m ne)
        ] in
        omega arith;
    held = λ slot.
        let before = s.held slot in
        let moved = total-moved (slots_in slot) refl xs ys key (λ k ne. ap (slots_in slot) (sets.rest k ne)) in
        let was : slots_in slot (node_at xs key) ≡ 0 = ap (slots_in slot) sets.here in
        let is : slots_in slot (node_at ys key) ≡ 0 = ap (slots_in slot) sets.now in
        omega arith;
  }

-- an entry whose slot is in hand comes to a place of a leaf, and the slot before is in hand
module _ (xs ys : NodeList) (counts hands loose : ℕ → ℕ) (key count d : ℕ) (entry : Entry) (es : List (Option Entry)) (s : IsShared xs counts hands (λ slot. loose slot + uses slot (Some entry))) (sets : SetsEntry xs ys key count d entry es) where
  child_same : (m e : ℕ) → child_in (node_at ys m) e ≡ child_in (node_at xs m) e
  child_same m e = elim (cases_eq m key) [
    | inl same ↦ ap (λ o. child_in o e) (ap (λ i. node_at ys i) same ∙ sets.now) ∙ sym (ap (λ o. child_in o e) (ap (λ i. node_at xs i) same ∙ sets.here))
    | inr ne ↦ ap (λ o. child_in o e) (sets.rest m ne)
  ]

  leaf_level : (m : ℕ) → level_in (node_at ys m) ≡ level_in (node_at xs m)
  leaf_level m = elim (cases_eq m key) [
    | inl same ↦ ap level_in (ap (λ i. node_at ys i) same ∙ sets.now) ∙ sym (ap level_in (ap (λ i. node_at xs i) same ∙ sets.here))
    | inr ne ↦ ap level_in (sets.rest m ne)
  ]

  pub shared-entry : IsShared ys counts hands (λ slot. loose slot + uses slot (get_or es d None))
  shared-entry = record {
    steps = λ k e c is. leaf_level k ∙ s.steps k e c (sym (child_same k e) ∙ is) ∙ ap (λ n. n + 1) (sym (leaf_level c));
    tall = λ k n l ks e. elim (cases_eq k key) [
      | inl same ↦ absurd (let both : Some (Leaf count (set es d (Some entry))) ≡ Some (Branch n l ks) = sym (ap (λ i. node_at ys i) same ∙ sets.now) ∙ e in let no : ⊥ = cc in no)
      | inr ne ↦ s.tall k n l ks (sym (sets.rest k ne) ∙ e)
    ];
    wide = λ k n e. elim (cases_eq k key) [
      | inl same ↦
          let both : Some n ≡ Some (Leaf count (set es d (Some entry))) = sym e ∙ ap (λ i. node_at ys i) same ∙ sets.now in
          let eq : n ≡ Leaf count (set es d (Some entry)) = cc in
          ap width eq ∙ length-set es d (Some entry) ∙ s.wide key (Leaf count es) sets.here
      | inr ne ↦ s.wide k n (sym (sets.rest k ne) ∙ e)
    ];
    flat = λ k. let is = leaf_level k in let low = s.flat k in omega arith;
    alive = λ k live. elim (cases_eq k key) [
      | inl same ↦
          let is : count_in (node_at ys k) ≡ count_in (node_at xs k) = ap count_in (ap (λ i. node_at ys i) same ∙ sets.now) ∙ sym (ap count_in (ap (λ i. node_at xs i) same ∙ sets.here)) in
          let pos = s.alive k (some-live (node_at xs k) (Leaf count es) (ap (λ i. node_at xs i) same ∙ sets.here)) in omega arith
      | inr ne ↦ let is : count_in (node_at ys k) ≡ count_in (node_at xs k) = ap count_in (sets.rest k ne) in let pos = s.alive k (subst (λ (o : Option Node). IsSome o) (sets.rest k ne) live) in omega arith
    ];
    counted = λ m.
        let before = s.counted m in
        let moved = total-moved (names m) refl xs ys key (λ k ne. ap (names m) (sets.rest k ne)) in
        let was : names m (node_at xs key) ≡ 0 = ap (names m) sets.here in
        let is : names m (node_at ys key) ≡ 0 = ap (names m) sets.now in
        let count_same : count_in (node_at ys m) ≡ count_in (node_at xs m) = elim (cases_eq m key) [
          | inl same ↦ ap count_in (ap (λ i. node_at ys i) same ∙ sets.now) ∙ sym (ap count_in (ap (λ i. node_at xs i) same ∙ sets.here))
          | inr ne ↦ ap count_in (sets.rest m ne)
        ] in
        omega arith;
    held = λ slot.
        let before = s.held slot in
        let moved = total-moved (slots_in slot) refl xs ys key (λ k ne. ap (slots_in slot) (sets.rest k ne)) in
        let was : slots_in slot (node_at xs key) ≡ total (uses slot) es = ap (slots_in slot) sets.here in
        let is : slots_in slot (node_at ys key) ≡ total (uses slot) (set es d (Some entry)) = ap (slots_in slot) sets.now in
        let inner = total-moved (uses slot) refl es (set es d (Some entry)) d (λ k ne. ap (uses slot) (get_or-set_other es d k (Some entry) None ne)) in
        let placed : uses slot (get_or (set es d (Some entry)) d None) ≡ uses slot (Some entry) = ap (uses slot) (get_or-set_same es d (Some entry) None sets.below) in
        omega arith;
  }

-- what is in hand, said otherwise
pub shared-as : (xs : List (Option Node)) (counts hands hands' loose loose' : ℕ → ℕ) → IsShared xs counts hands loose → ((m : ℕ) → hands m ≡ hands' m) → ((slot : ℕ) → loose slot ≡ loose' slot) → IsShared xs counts hands' loose'
shared-as xs counts hands hands' loose loose' s same_hands same_loose = record {
  steps = s.steps;
  tall = s.tall;
  wide = s.wide;
  flat = s.flat;
  alive = s.alive;
  counted = λ m. s.counted m ∙ ap (λ n. n + total (names m) xs) (same_hands m);
  held = λ slot. s.held slot ∙ ap (λ n. n + total (slots_in slot) xs) (same_loose slot);
}

-- slots are counted otherwise
pub shared-counts : (xs : List (Option Node)) (counts counts' hands loose loose' : ℕ → ℕ) → IsShared xs counts hands loose → ((slot : ℕ) → counts' slot + loose slot ≡ counts slot + loose' slot) → IsShared xs counts' hands loose'
shared-counts xs counts counts' hands loose loose' s moved = record {
  steps = s.steps;
  tall = s.tall;
  wide = s.wide;
  flat = s.flat;
  alive = s.alive;
  counted = s.counted;
  held = λ slot. let before = s.held slot in let move = moved slot in omega arith;
}
