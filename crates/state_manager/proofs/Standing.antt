-- The states in memory, and the lines that ask about a state.
use Rattle.std.proofs.Common.{◌≡◌, ◌==◌, ℕ, Bool, true, false, not, List, [], ◌∷◌, ◌++◌, length, map, Option, Some, None, Result, Ok, Err, refl, ◌∙◌, ap, sym, subst, arith, inl, inr}
use Rattle.std.proofs.lemmas.Bool.{cases_Bool}
use Rattle.std.proofs.lemmas.Map.Views.{exact_unsigned_eq}
use Rattle.std.specs.Prelude.{find, filter, is_some, if◌then◌else◌}
use Rattle.std.specs.List.{AllZip}
use Rattle.std.specs.Option.{option_or}
use Rattle.std.specs.Result.{IfOk}
use Rattle.byte_codec.specs.declared.error.NoMemory.{NoMemory}
use Rattle.state_spec.specs.State.{State}
use Rattle.script_text.specs.declared.command.Command.{Command}
use Rattle.machine_spec.specs.Step.{step}
use Rattle.script_text.specs.declared.command.HeightOrLive.{HeightOrLive}
use Rattle.script_text.specs.declared.command.HeightOrLive.TheVariants.{Live, Height}
use Rattle.script_text.specs.declared.reply.Reply.{Reply}
use Rattle.script_text.specs.declared.reply.Reply.TheVariants as replies
use Rattle.script_text.specs.declared.reply.Refusal.TheVariants.{NoHeight}
use Rattle.machine_spec.specs.Costs.{on_disk}
use Rattle.machine_spec.specs.Machine.{Machine, Outcome, outcome_of, unless_none, on_state, state_at, kept_at, published_at, without_height}
use Rattle.store_spec.specs.Image.{Published}
use Rattle.disk_model.specs.Files.{Files}
use Rattle.height_store.specs.Kept.{HasStacks, IsReadable, ShowsHeight}
use Rattle.height_store.specs.Laws.{stacks_found}
use Rattle.height_store.specs.Store.{StoredHeight, height_at}
use Rattle.height_store.specs.Known.{KnowsHeight}
use Rattle.state_manager.specs.Kept.{ManagerView, KeepsStates, KeepsEach, Performs, held_at, published_height}
use Rattle.live_state.specs.StateKept.{StateView, KeepsState, live_of}

-- ---- the states in memory

-- what is held at a height, beside what the machine has there
abbrev pub Found : Option StateView → ℕ → Option State → Type 0
Found None h None = Unit {0}
Found (Some held) h (Some s) = KeepsState held (h, s)
Found _ h _ = ⊥

height_test : (held : StateView) (k : ℕ × State) (h : ℕ) → KeepsState held k → (held.height == h) ≡ (k.0 == h)
height_test held k h keeps = ap (λ (n : ℕ). n == h) keeps.height

pub finds : (helds : List StateView) (ks : List (ℕ × State)) (h : ℕ) → KeepsEach helds ks → Found (find (λ a. a.height == h) helds) h (kept_at h ks)
finds [] [] h each = tt
finds [] (k ∷ ks) h each = absurd each
finds (a ∷ helds) [] h each = absurd each
finds (a ∷ helds) (k ∷ ks) h each = elim (cases_Bool (k.0 == h)) [
  | inl here ↦ rw (height_test a k h each.0, here) (subst (λ (n : ℕ). KeepsState a (n, k.1)) (exact_unsigned_eq k.0 h here) each.0)
  | inr there ↦ rw (height_test a k h each.0, there) (finds helds ks h each.1)
]

pub drops : (helds : List StateView) (ks : List (ℕ × State)) (h : ℕ) → KeepsEach helds ks → KeepsEach (filter (λ a. not (a.height == h)) helds) (without_height h ks)
drops [] [] h each = tt
drops [] (k ∷ ks) h each = absurd each
drops (a ∷ helds) [] h each = absurd each
drops (a ∷ helds) (k ∷ ks) h each = elim (cases_Bool (k.0 == h)) [
  | inl here ↦ rw (height_test a k h each.0, here) (drops helds ks h each.1)
  | inr there ↦ rw (height_test a k h each.0, there) (each.0, drops helds ks h each.1)
]

pub joins : (helds : List StateView) (ks : List (ℕ × State)) (a : StateView) (k : ℕ × State) → KeepsEach helds ks → KeepsState a k → KeepsEach (helds ++ a ∷ []) (ks ++ k ∷ [])
joins [] [] a k each keeps = (keeps, tt)
joins [] (x ∷ ks) a k each keeps = absurd each
joins (b ∷ helds) [] a k each keeps = absurd each
joins (b ∷ helds) (x ∷ ks) a k each keeps = (each.0, joins helds ks a k each.1 keeps)

pub as_many : (helds : List StateView) (ks : List (ℕ × State)) → KeepsEach helds ks → length helds ≡ length ks
as_many [] [] each = refl
as_many [] (k ∷ ks) each = absurd each
as_many (a ∷ helds) [] each = absurd each
as_many (a ∷ helds) (k ∷ ks) each = omega (arith, as_many helds ks each.1)

pub same_heights : (helds : List StateView) (ks : List (ℕ × State)) → KeepsEach helds ks → map (λ a. a.height) helds ≡ map (λ k. k.0) ks
same_heights [] [] each = refl
same_heights [] (k ∷ ks) each = absurd each
same_heights (a ∷ helds) [] each = absurd each
same_heights (a ∷ helds) (k ∷ ks) each = cc (each.0.height, same_heights helds ks each.1)

-- ---- lines that ask about a state

-- the machine's state in memory that a line asks about
abbrev pub in_memory : Machine → HeightOrLive → Option State
in_memory m Live = Some m.live
in_memory m (Height h) = kept_at h m.memory

-- what the machine has where the manager finds something
abbrev pub FoundIn : Option StateView → Option State → Type 0
FoundIn None s = s ≡ None
FoundIn (Some held) s = (k : ℕ × State) × KeepsState held k × (s ≡ Some k.1)

by_found : (o : Option StateView) (h : ℕ) (s : Option State) → Found o h s → FoundIn o s
by_found None h None f = refl
by_found None h (Some s) f = absurd f
by_found (Some a) h None f = absurd f
by_found (Some a) h (Some s) f = ((h, s), f, refl)

found_at : (held : ManagerView) (m : Machine) → KeepsStates held m → (at : HeightOrLive) → FoundIn (held_at held at) (in_memory m at)
found_at held m k Live = (live_of m, k.live, refl)
found_at held m k (Height h) = by_found (held_at held (Height h)) h (kept_at h m.memory) (finds held.memory m.memory h k.memory)

pub at_some : (held : ManagerView) (m : Machine) → KeepsStates held m → (at : HeightOrLive) (a : StateView) → Some a ≡ held_at held at → (n : ℕ × State) × KeepsState a n × (in_memory m at ≡ Some n.1)
at_some held m k at a e = subst (λ (o : Option StateView). FoundIn o (in_memory m at)) (sym e) (found_at held m k at)

pub at_none : (held : ManagerView) (m : Machine) → KeepsStates held m → (at : HeightOrLive) → None ≡ held_at held at → in_memory m at ≡ None
at_none held m k at e = subst (λ (o : Option StateView). FoundIn o (in_memory m at)) (sym e) (found_at held m k at)

-- a line that asks about a state that is there, or about none, changes nothing
pub asks_there : (m : Machine) (at : HeightOrLive) (s : State) → state_at m at ≡ Some s → (act : State → Outcome) (reply : Reply) → reply ≡ (act s).reply → (act s).after ≡ m
    → (reply ≡ (on_state m at act).reply) × ((on_state m at act).after ≡ m)
asks_there m at s e act reply r a = subst (λ (o : Option State). (reply ≡ (unless_none o NoHeight m act).reply) × ((unless_none o NoHeight m act).after ≡ m)) (sym e) (r, a)

pub asks_none : (m : Machine) (at : HeightOrLive) → state_at m at ≡ None → (act : State → Outcome)
    → (replies.Refused NoHeight ≡ (on_state m at act).reply) × ((on_state m at act).after ≡ m)
asks_none m at e act = subst (λ (o : Option State). (replies.Refused NoHeight ≡ (unless_none o NoHeight m act).reply) × ((unless_none o NoHeight m act).after ≡ m)) (sym e) (refl, refl)

pub unchanged : (held : ManagerView) (m : Machine) → KeepsStates held m → (reply : Reply) (o : Outcome) → (reply ≡ o.reply) × (o.after ≡ m)
    → (reply ≡ o.reply) × KeepsStates held o.after × (o.after.published ≡ m.published)
unchanged held m k reply o h = (h.0, subst (λ (n : Machine). KeepsStates held n) (sym h.1) k, ap (λ (n : Machine). n.published) h.1)

-- ---- published heights

-- what is published at a height, beside what the machine has there
pub record AtHeight (R : StoredHeight → Published → Type 0) (h : StoredHeight) (height : ℕ) (ps : List Published) : Type 0 where
  pub published : Published
  pub related : R h published
  pub state : published_at height ps ≡ Some published.state

abbrev pub FoundHeight : (StoredHeight → Published → Type 0) → Option StoredHeight → ℕ → List Published → Type 0
FoundHeight R None height ps = published_at height ps ≡ None
FoundHeight R (Some h) height ps = AtHeight R h height ps

-- a published height that a line asks about, and the machine's
pub record PublishedAt (R : StoredHeight → Published → Type 0) (m : Machine) (at : HeightOrLive) (h : StoredHeight) : Type 0 where
  pub published : Published
  pub related : R h published
  pub state : state_at m at ≡ Some published.state
  pub on_disk : on_disk m at ≡ Some published.state

module _ (R : StoredHeight → Published → Type 0) (same : (h : StoredHeight) (p : Published) → R h p → h.mark.height ≡ p.height) where
  pub find_height : (hs : List StoredHeight) (ps : List Published) (height : ℕ) → AllZip R hs ps → FoundHeight R (height_at hs height) height ps
  find_height [] [] height each = refl
  find_height [] (p ∷ ps) height each = absurd each
  find_height (h ∷ hs) [] height each = absurd each
  find_height (h ∷ hs) (p ∷ ps) height each = elim (cases_Bool (p.height == height)) [
    | inl here ↦ rw (ap (λ (n : ℕ). n == height) (same h p each.0), here) (record { published = p; related = each.0; state = rw here refl })
    | inr there ↦ rw (ap (λ (n : ℕ). n == height) (same h p each.0), there) (passed (height_at hs height) (find_height hs ps height each.1) there)
  ]
    where
      passed : (o : Option StoredHeight) → FoundHeight R o height ps → (p.height == height) ≡ false → FoundHeight R o height (p ∷ ps)
      passed None f there = rw there f
      passed (Some x) f there = record { published = f.published; related = f.related; state = rw there f.state }

  pub same_heights_in : (hs : List StoredHeight) (ps : List Published) → AllZip R hs ps → map (λ h. h.mark.height) hs ≡ map (λ p. p.height) ps
  same_heights_in [] [] each = refl
  same_heights_in [] (p ∷ ps) each = absurd each
  same_heights_in (h ∷ hs) [] each = absurd each
  same_heights_in (h ∷ hs) (p ∷ ps) each = cc (same h p each.0, same_heights_in hs ps each.1)

  pub published_some : (held : ManagerView) (m : Machine) → AllZip R held.store.heights m.published → (at : HeightOrLive) (h : StoredHeight) → Some h ≡ published_height held at → PublishedAt R m at h
  published_some held m each Live h e = absurd (cc e)
  published_some held m each (Height n) h e = by (height_at held.store.heights n) (find_height held.store.heights m.published n each) e
    where
      by : (o : Option StoredHeight) → FoundHeight R o n m.published → Some h ≡ o → PublishedAt R m (Height n) h
      by None f e = absurd (cc e)
      by (Some x) f e =
          let one : x ≡ h = cc e in
          record {
            published = f.published;
            related = subst (λ (y : StoredHeight). R y f.published) one f.related;
            state = ap (λ (o : Option State). option_or o (kept_at n m.memory)) f.state;
            on_disk = f.state;
          }

pub knows_same : (h : StoredHeight) (p : Published) → KnowsHeight h p → h.mark.height ≡ p.height
knows_same h p knows = knows.height

pub shows_same : (files : Files) (h : StoredHeight) (p : Published) → ShowsHeight files h p → h.mark.height ≡ p.height
shows_same files h p shows = sym shows.made.height

pub knows_some : (held : ManagerView) (m : Machine) → KeepsStates held m → (at : HeightOrLive) (h : StoredHeight) → Some h ≡ published_height held at → PublishedAt KnowsHeight m at h
knows_some held m k at h e = published_some KnowsHeight knows_same held m k.published at h e

-- the page files of a published height that a line asks about are there
pub stacks_there : (files : Files) (held : ManagerView) (at : HeightOrLive) (h : StoredHeight) → Some h ≡ published_height held at → IsReadable held.store.heights files → HasStacks files h
stacks_there files held Live h e readable = absurd (cc e)
stacks_there files held (Height n) h e readable = stacks_found files held.store.heights n h e readable

-- Of a height that isn't published, the machine has the state in memory.
pub published_none : (held : ManagerView) (m : Machine) → KeepsStates held m → (at : HeightOrLive) → None ≡ published_height held at → state_at m at ≡ in_memory m at
published_none held m k Live e = refl
published_none held m k (Height h) e = by (height_at held.store.heights h) (find_height KnowsHeight knows_same held.store.heights m.published h k.published) e
  where
    by : (o : Option StoredHeight) → FoundHeight KnowsHeight o h m.published → None ≡ o → option_or (published_at h m.published) (kept_at h m.memory) ≡ kept_at h m.memory
    by None f e = ap (λ (o : Option State). option_or o (kept_at h m.memory)) f
    by (Some x) f e = absurd (cc e)

-- ---- lines that need no disk

pub line_published : (held : ManagerView) (m : Machine) (k : KeepsStates held m) → (at : HeightOrLive) (h : StoredHeight) → (e : Some h ≡ published_height held at) → (act : State → Outcome) (reply : Reply)
    → ((s : State) → (act s).after ≡ m) → reply ≡ (act (knows_some held m k at h e).published.state).reply
    → (reply ≡ (on_state m at act).reply) × KeepsStates held (on_state m at act).after × ((on_state m at act).after.published ≡ m.published)
line_published held m k at h e act reply after is =
    let p = knows_some held m k at h e in
    unchanged held m k reply (on_state m at act) (asks_there m at p.published.state p.state act reply is (after p.published.state))

pub line_some : (held : ManagerView) (m : Machine) (k : KeepsStates held m) → (at : HeightOrLive) → None ≡ published_height held at → (a : StateView) → (e : Some a ≡ held_at held at) → (act : State → Outcome) (reply : Reply)
    → ((s : State) → (act s).after ≡ m) → reply ≡ (act (at_some held m k at a e).0.1).reply
    → (reply ≡ (on_state m at act).reply) × KeepsStates held (on_state m at act).after × ((on_state m at act).after.published ≡ m.published)
line_some held m k at none a e act reply after is =
    let n = at_some held m k at a e in
    unchanged held m k reply (on_state m at act) (asks_there m at n.0.1 (published_none held m k at none ∙ n.2) act reply is (after n.0.1))

pub line_none : (held : ManagerView) (m : Machine) → KeepsStates held m → (at : HeightOrLive) → None ≡ published_height held at → None ≡ held_at held at → (act : State → Outcome)
    → (replies.Refused NoHeight ≡ (on_state m at act).reply) × KeepsStates held (on_state m at act).after × ((on_state m at act).after.published ≡ m.published)
line_none held m k at none e act = unchanged held m k (replies.Refused NoHeight) (on_state m at act) (asks_none m at (published_none held m k at none ∙ at_none held m k at e) act)

-- a manager that keeps a tree is the same to its lines
pub record WithTree (held : ManagerView) (m : Machine) (at : HeightOrLive) : Type 0 where
  pub keeps : KeepsStates held m
  pub none : None ≡ published_height held at

pub with_tree : (old new : ManagerView) (m : Machine) (at : HeightOrLive) → new ≡ old → KeepsStates old m → None ≡ published_height old at → WithTree new m at
with_tree old new m at same k none = subst (λ (h : ManagerView). WithTree h m at) (sym same) (record { keeps = k; none = none })

-- a line that answers something of a state
module _ (held : ManagerView) (m : Machine) (k : KeepsStates held m) (at : HeightOrLive) (command : Command) (tell : State → Reply) (same : step m command ≡ on_state m at (λ s. outcome_of (tell s) m)) where
  told : (reply : Reply) → (reply ≡ (on_state m at (λ s. outcome_of (tell s) m)).reply) × KeepsStates held (on_state m at (λ s. outcome_of (tell s) m)).after × ((on_state m at (λ s. outcome_of (tell s) m)).after.published ≡ m.published)
      → Performs (Ok reply) held m command
  told reply h = subst (λ (o : Outcome). (reply ≡ o.reply) × KeepsStates held o.after × (o.after.published ≡ m.published)) (sym same) h

  pub performs_published : (h : StoredHeight) → (e : Some h ≡ published_height held at) → (result : Result Reply NoMemory)
      → IfOk result (λ reply. reply ≡ tell (knows_some held m k at h e).published.state) → Performs result held m command
  performs_published h e (Ok reply) is = told reply (line_published held m k at h e (λ s. outcome_of (tell s) m) reply (λ s. refl) is)
  performs_published h e (Err x) is = tt

  pub performs_in_memory : None ≡ published_height held at → (a : StateView) → (e : Some a ≡ held_at held at) → (result : Result Reply NoMemory)
      → IfOk result (λ reply. reply ≡ tell (at_some held m k at a e).0.1) → Performs result held m command
  performs_in_memory none a e (Ok reply) is = told reply (line_some held m k at none a e (λ s. outcome_of (tell s) m) reply (λ s. refl) is)
  performs_in_memory none a e (Err x) is = tt
