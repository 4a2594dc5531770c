-- The published height that is asked for, in the store and among the heights that its files show.
use Rattle.std.proofs.Common.{◌≡◌, ℕ, ◌<◌, ◌==◌, ◌&&◌, Bool, true, false, cond, if◌then◌else◌, List, [], ◌∷◌, find, Option, Some, None, refl, sym, ap, ◌∙◌, subst, arith}
use Rattle.std.specs.List.{AllByRecursion, AllZip}
use Rattle.std.specs.Option.{option_map}
use Rattle.std.specs.List.Sorted.{IsStrictlyIncreasing}
use Rattle.std.proofs.lemmas.Bool.{eqb-true, ne_eqb}
use Rattle.format_spec.proofs.Lists.{none_or_some, all_weaker}
use Rattle.format_spec.specs.Bytes.{Bytes, same_bytes}
use Rattle.state_spec.specs.State.{State}
use Rattle.state_spec.specs.Root.{root_of}
use Rattle.store_spec.specs.Image.{Published}
use Rattle.disk_model.specs.Files.{Files}
use Rattle.height_store.specs.Store.{StoredHeight, heights_in, height_at}
use Rattle.height_store.specs.Kept.{ShowsHeight, ShowsHeights}
use Rattle.sync_spec.specs.Messages.{Ask, Content, gone, read_ask, answer_text}
use Rattle.sync_spec.specs.Serving.{content_of, content_at, serve}
use Rattle.height_store.specs.KnownLaws.{shown_known}
use Rattle.height_store.specs.Laws.{tail_ascends}
use Rattle.sync_serve.specs.Served.{states_in, with_root, target_at, answer_from}

-- what a sync's definitions look for
abbrev pub is_target : ℕ → Bytes → ℕ × State → Bool
is_target height root p = p.0 == height && same_bytes (root_of p.1) root

above : (x : ℕ) (xs : List ℕ) → IsStrictlyIncreasing (x ∷ xs) → AllByRecursion (λ y. x < y) xs
above x [] up = tt
above x (y ∷ ys) up =
    let below : x < y = up 0 (omega arith) in
    (below, all_weaker (λ z. y < z) (λ z. x < z) (λ z lt. omega (arith, below, lt)) ys (above y ys (tail_ascends x (y ∷ ys) up)))

module _ (files : Files) (height : ℕ) (root : Bytes) where
  -- what is found among the published heights is what the store has
  abbrev pub Found : Option StoredHeight → Option (ℕ × State) → Type 0
  Found None o = o ≡ None
  Found (Some h) o = (p : Published) × ShowsHeight files h p × (o ≡ Some (p.height, p.state))

  later_none : (x : ℕ) (hs : List StoredHeight) (ps : List Published) → x ≡ height → AllByRecursion (λ y. x < y) (heights_in hs) → AllZip (ShowsHeight files) hs ps → find (is_target height root) (states_in ps) ≡ None
  later_none x [] [] is above each = refl
  later_none x [] (p ∷ ps) is above each = absurd each
  later_none x (h ∷ hs) [] is above each = absurd each
  later_none x (h ∷ hs) (p ∷ ps) is above each =
      let apart : (p.height == height) ≡ false = ne_eqb p.height height (λ same. omega (arith, is, same, above.0, each.0.made.height)) in
      ap (λ (b : Bool). cond (b && same_bytes (root_of p.state) root) (Some (p.height, p.state)) (find (is_target height root) (states_in ps))) apart
      ∙ later_none x hs ps is above.1 each.1

  step : (h : StoredHeight) (p : Published) (a b : Bool) (o : Option StoredHeight) (q : Option (ℕ × State)) → ShowsHeight files h p → same_bytes h.mark.root root ≡ b → (a ≡ true → q ≡ None) → Found (with_root root o) q
      → Found (with_root root (cond a (Some h) o)) (cond (a && b) (Some (p.height, p.state)) q)
  step h p true true o q shows e none more = rw e (p, shows, refl)
  step h p true false o q shows e none more = rw e (none refl)
  step h p false b o q shows e none more = more

  pub found : (hs : List StoredHeight) (ps : List Published) → AllZip (ShowsHeight files) hs ps → IsStrictlyIncreasing (heights_in hs) → Found (target_at hs height root) (find (is_target height root) (states_in ps))
  found [] [] each up = refl
  found [] (p ∷ ps) each up = absurd each
  found (h ∷ hs) [] each up = absurd each
  found (h ∷ hs) (p ∷ ps) each up =
      let known = shown_known files h p each.0 in
      let q = find (is_target height root) (states_in ps) in
      let same : (h.mark.height == height && same_bytes h.mark.root root) ≡ is_target height root (p.height, p.state) = λ i. known.height i == height && same_bytes (known.root i) root in
      subst (λ (b : Bool). Found (target_at (h ∷ hs) height root) (cond b (Some (p.height, p.state)) q)) same
      (step h p (h.mark.height == height) (same_bytes h.mark.root root) (height_at hs height) q each.0 refl
      (λ here. later_none h.mark.height hs ps (eqb-true h.mark.height height here) (above h.mark.height (heights_in hs) up) each.1)
      (found hs ps each.1 (tail_ascends h.mark.height (heights_in hs) up)))

-- ---- what is served

pub root_same : (root : Bytes) (h : StoredHeight) (o : Option StoredHeight) → Some h ≡ o → same_bytes h.mark.root root ≡ true → Some h ≡ with_root root o
root_same root h o is same = sym (ap (λ (b : Bool). if b then Some h else None) same) ∙ ap (with_root root) is

pub root_other : (root : Bytes) (h : StoredHeight) (o : Option StoredHeight) → Some h ≡ o → same_bytes h.mark.root root ≡ false → None ≡ with_root root o
root_other root h o is other = sym (ap (λ (b : Bool). if b then Some h else None) other) ∙ ap (with_root root) is

target_some : (root : Bytes) (o : Option StoredHeight) (h : StoredHeight) → Some h ≡ with_root root o → Some h ≡ o
target_some root None h is = absurd (none_or_some h None refl (sym is))
target_some root (Some x) h is = by (same_bytes x.mark.root root) is
  where
    by : (b : Bool) → Some h ≡ (if b then Some x else None) → Some h ≡ Some x
    by true is = is
    by false is = absurd (none_or_some h None refl (sym is))

pub target_found : (hs : List StoredHeight) (height : ℕ) (root : Bytes) (h : StoredHeight) → Some h ≡ target_at hs height root → Some h ≡ height_at hs height
target_found hs height root h is = target_some root (height_at hs height) h is

module _ (files : Files) (hs : List StoredHeight) (ps : List Published) (ask : Ask) (shows : ShowsHeights files hs ps) where
  among : Found files ask.height ask.root (target_at hs ask.height ask.root) (find (is_target ask.height ask.root) (states_in ps))
  among = found files ask.height ask.root hs ps shows.each shows.listed.ascending

  pub served_here : (h : StoredHeight) → Some h ≡ target_at hs ask.height ask.root → (p : Published) × ShowsHeight files h p × ((serve (states_in ps) ask).content ≡ content_of p.state ask.item)
  unfolding serve
  served_here h is =
      let there = subst (λ (o : Option StoredHeight). Found files ask.height ask.root o (find (is_target ask.height ask.root) (states_in ps))) (sym is) among in
      (there.0, there.1, ap (λ (o : Option (ℕ × State)). content_at o ask.item) there.2)

  pub served_gone : None ≡ target_at hs ask.height ask.root → (serve (states_in ps) ask).content ≡ gone
  unfolding serve
  served_gone is = ap (λ (o : Option (ℕ × State)). content_at o ask.item) (subst (λ (o : Option StoredHeight). Found files ask.height ask.root o (find (is_target ask.height ask.root) (states_in ps))) (sym is) among)

pub served_text : (heights : List (ℕ × State)) (ask : Ask) (content : Content) → content ≡ (serve heights ask).content → answer_text (record { ask = ask; content = content }) ≡ answer_text (serve heights ask)
unfolding serve
served_text heights ask content is = ap (λ (c : Content). answer_text (record { ask = ask; content = c })) is

pub answered : (ps : List Published) (bytes text : Bytes) (ask : Ask) → Some ask ≡ read_ask bytes → text ≡ answer_text (serve (states_in ps) ask) → answer_from ps bytes ≡ Some text
answered ps bytes text ask is texted = ap (option_map (λ (a : Ask). answer_text (serve (states_in ps) a))) (sym is) ∙ ap (λ (t : Bytes). Some t) (sym texted)
