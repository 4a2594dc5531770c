-- Soundness is kept by the steps on heights, and by those that change nothing.
use Rattle.std.proofs.Common.{◌≡◌, ℕ, ◌+◌, ◌<◌, ◌≤◌, ◌==◌, Bool, true, false, not, cond, List, [], ◌∷◌, ◌++◌, map, filter, length, Some, None, is_some, refl, sym, ap, subst, arith, nat_le, nat_lt, length-append}
use Rattle.std.specs.List.{AllByRecursion, last_or}
use Rattle.std.proofs.lemmas.Bool.{leb-false}
use Rattle.format_spec.specs.declared.limits.TheConstants.{MAX_HEIGHT, MAX_HEIGHTS, MAX_PUBLISHED}
use Rattle.state_spec.specs.State.{State}
use Rattle.state_spec.specs.Root.{root_of}
use Rattle.store_spec.specs.Image.{Published, heights_of, without_published, whole_layers}
use Rattle.script_text.specs.declared.command.HeightOrLive.{HeightOrLive}
use Rattle.script_text.specs.declared.reply.Reply.{Reply}
use Rattle.script_text.specs.declared.reply.Reply.TheVariants as replies
use Rattle.script_text.specs.declared.reply.Refusal.TheVariants.{ManyHeights, HeightLimit, HeightLow, ManyMarks, NoHeight, LastHeight}
use Rattle.machine_spec.specs.Machine.{Machine, outcome_of, unless, unless_none, kept_at, without_height, state_at, newest, published_at, resumed_at}
use Rattle.machine_spec.specs.States.{memories_of}
use Rattle.machine_spec.specs.HeightSteps.{round_step, forget_step, tree_root}
use Rattle.machine_spec.specs.StoreSteps.{is_low, is_newest, checkpoint_step, purge_step, reset_step}
use Rattle.machine_spec.specs.Sound.{IsSound, IsWholeState, IsWithin, IsBornBy, EachLater, Ascend, MayBegin}
use Rattle.machine_spec.proofs.Lists.{before_one, later_one, later_kept, of_map, to_map, later_of_map, later_to_map, last_holds}
use Rattle.machine_spec.proofs.LiveKept.{if_not_refused, if_some, live_within}
use Rattle.machine_spec.proofs.StartKept.{resumed_is_sound}
use Rattle.format_spec.proofs.Lists.{all_weaker, all_join, all_parts, all_filtered}

abbrev Kept : Type 0
Kept = ℕ × State

abbrev Lower : Kept → Kept → Type 0
Lower a b = a.0 < b.0

abbrev Below : ℕ → ℕ → Type 0
Below a b = a < b

-- ---- answers

pub asked_kept : (m : Machine) (at : HeightOrLive) (reply : State → Reply) → IsSound m → IsSound (unless_none (state_at m at) NoHeight m (λ s. outcome_of (reply s) m)).after
asked_kept m at reply s = if_some IsSound (state_at m at) NoHeight m (λ t. outcome_of (reply t) m) s (λ t _. s)

-- ---- round

map_longer : {X Y : Type 0} (f : X → Y) (xs : List X) (y : X) → map f (xs ++ y ∷ []) ≡ map f xs ++ f y ∷ []
map_longer f [] y = refl
map_longer {X} {Y} f (x ∷ xs) y = ap (λ (l : List Y). f x ∷ l) (map_longer f xs y)

within_next : (h : ℕ) (s : State) → IsWithin (h, s) → IsWithin (h + 1, s)
within_next h s all = all_weaker (IsBornBy h) (IsBornBy (h + 1)) (λ n b. record {
  birth = omega (arith, b.birth);
  rounds = all_weaker (λ r. r.1 ≤ h) (λ r. r.1 ≤ h + 1) (λ r le. omega (arith, le)) n.memory.rounds b.rounds;
}) (memories_of s) all

round_sound : (m : Machine) → IsSound m → length m.memory < MAX_HEIGHTS → IsSound (record m { height = m.height + 1; memory = m.memory ++ (m.height, m.live) ∷ [] })
round_sound m s few =
    let e : Kept = (m.height, m.live) in
    let heights = before_one Below (0 ∷ map (λ k. k.0) m.memory) m.height s.ascends in
    record {
      live = s.live;
      memory = all_join (λ k. IsWholeState k.1) m.memory (e ∷ []) s.memory (s.live, tt);
      within = all_join IsWithin (m.memory ++ e ∷ []) ((m.height + 1, m.live) ∷ []) s.within (within_next m.height m.live (live_within m s), tt);
      ascends =
          subst (λ (ns : List ℕ). Ascend (0 ∷ (ns ++ (m.height + 1) ∷ []))) (sym (map_longer (λ (k : Kept). k.0) m.memory e))
          (later_one Below (0 ∷ (map (λ k. k.0) m.memory ++ m.height ∷ [])) (m.height + 1) s.ascends
          (all_join (λ h. h < m.height + 1) (0 ∷ map (λ k. k.0) m.memory) (m.height ∷ []) (all_weaker (λ h. h < m.height) (λ h. h < m.height + 1) (λ h lt. omega (arith, lt)) (0 ∷ map (λ k. k.0) m.memory) heights.1) (omega arith, tt)));
      published = s.published;
      above = all_weaker (λ p. p.height < m.height) (λ p. p.height < m.height + 1) (λ p lt. omega (arith, lt)) m.published s.above;
      few_in_memory = omega (arith, few, length-append m.memory (e ∷ []));
    }

pub round_kept : (m : Machine) → IsSound m → IsSound (round_step m).after
round_kept m s =
    if_not_refused IsSound ((nat_le MAX_HEIGHTS (length m.memory), ManyHeights) ∷ (nat_lt MAX_HEIGHT m.height, HeightLimit) ∷ []) m
    (λ m. outcome_of (replies.Round m.height (tree_root m.live)) (record m { height = m.height + 1; memory = m.memory ++ (m.height, m.live) ∷ [] })) s
    (λ no. round_sound m s (leb-false MAX_HEIGHTS (length m.memory) no.0))

-- ---- forget

fewer : {X : Type 0} (t : X → Bool) (xs : List X) → length (filter t xs) ≤ length xs
fewer t [] = omega arith
fewer t (x ∷ xs) = by (t x) (fewer t xs)
  where
    by : (b : Bool) → length (filter t xs) ≤ length xs → length (cond b (x ∷ filter t xs) (filter t xs)) ≤ length (x ∷ xs)
    by true le = omega (arith, le)
    by false le = omega (arith, le)

forget_sound : (m : Machine) (h : ℕ) → IsSound m → IsSound (record m { memory = without_height h m.memory })
forget_sound m h s =
    let keep : Kept → Bool = λ k. not (k.0 == h) in
    let live : Kept = (m.height, m.live) in
    let inside = all_parts IsWithin m.memory (live ∷ []) s.within in
    let heights = before_one Below (0 ∷ map (λ k. k.0) m.memory) m.height s.ascends in
    let pairs : EachLater Lower m.memory = later_of_map (λ k. k.0) Below m.memory heights.0.1 in
    record {
      live = s.live;
      memory = all_filtered (λ k. IsWholeState k.1) keep m.memory s.memory;
      within = all_join IsWithin (filter keep m.memory) (live ∷ []) (all_filtered IsWithin keep m.memory inside.0) inside.1;
      ascends = later_one Below (0 ∷ map (λ k. k.0) (filter keep m.memory)) m.height (
        to_map (λ k. k.0) (λ x. 0 < x) (filter keep m.memory) (all_filtered (λ k. 0 < k.0) keep m.memory (of_map (λ k. k.0) (λ x. 0 < x) m.memory heights.0.0)),
        later_to_map (λ k. k.0) Below (filter keep m.memory) (later_kept Lower keep m.memory pairs),
      )
          (heights.1.0, to_map (λ k. k.0) (λ x. x < m.height) (filter keep m.memory) (all_filtered (λ k. k.0 < m.height) keep m.memory (of_map (λ k. k.0) (λ x. x < m.height) m.memory heights.1.1)));
      published = s.published;
      above = s.above;
      few_in_memory = omega (arith, s.few_in_memory, fewer keep m.memory);
    }

pub forget_kept : (m : Machine) (h : ℕ) → IsSound m → IsSound (forget_step m h).after
forget_kept m h s =
    if_not_refused IsSound ((not (is_some (kept_at h m.memory)), NoHeight) ∷ []) m
    (λ m. outcome_of replies.Fine (record m { memory = without_height h m.memory })) s (λ no. forget_sound m h s)

-- ---- checkpoint

-- the newest height is below one that isn't low, and so is each other
above_newest : (h : ℕ) (ps : List Published) → EachLater Below (heights_of ps) → is_low h ps ≡ false → AllByRecursion (λ p. p.height < h) ps
above_newest h [] each high = tt
above_newest h (p ∷ []) each high = (leb-false h p.height high, tt)
above_newest h (p ∷ q ∷ ps) each high =
    let rest = above_newest h (q ∷ ps) each.1 high in
    (omega (arith, each.0.0, rest.0), rest)

checkpoint_sound : (m : Machine) (k : Kept) → IsSound m → last_or None m.memory ≡ Some k → is_low k.0 m.published ≡ false → length m.published < MAX_PUBLISHED
    → IsSound (record m { published = m.published ++ record { height = k.0; state = k.1; layers = whole_layers k.1 } ∷ [] })
checkpoint_sound m k s last high few =
    let p : Published = record { height = k.0; state = k.1; layers = whole_layers k.1 } in
    let heights = before_one Below (0 ∷ map (λ k. k.0) m.memory) m.height s.ascends in
    let positive : 0 < k.0 = last_holds (λ k. 0 < k.0) None m.memory k tt (of_map (λ k. k.0) (λ x. 0 < x) m.memory heights.0.0) last in
    let under : k.0 < m.height = last_holds (λ k. k.0 < m.height) None m.memory k tt (of_map (λ k. k.0) (λ x. x < m.height) m.memory heights.1.1) last in
    let whole : IsWholeState k.1 = last_holds (λ k. IsWholeState k.1) None m.memory k tt s.memory last in
    let over : AllByRecursion (λ p. p.height < k.0) m.published = above_newest k.0 m.published s.published.ascend high in
    record {
      live = s.live;
      memory = s.memory;
      within = s.within;
      ascends = s.ascends;
      published = record {
        ascend = subst Ascend (sym (map_longer (λ (p : Published). p.height) m.published p)) (later_one Below (heights_of m.published) k.0 s.published.ascend (to_map (λ p. p.height) (λ x. x < k.0) m.published over));
        few = omega (arith, few, length-append m.published (p ∷ []));
        each = all_join MayBegin m.published (p ∷ []) s.published.each (record { from_one = positive; valid = whole.valid; version = whole.version }, tt);
      };
      above = all_join (λ p. p.height < m.height) m.published (p ∷ []) s.above (under, tt);
      few_in_memory = s.few_in_memory;
    }

pub checkpoint_kept : (m : Machine) → IsSound m → IsSound (checkpoint_step m).after
checkpoint_kept m s =
    if_some IsSound (last_or None m.memory) NoHeight m (λ k. unless (
    (is_low k.0 m.published, HeightLow)
    ∷ (nat_le MAX_PUBLISHED (length m.published), ManyMarks)
    ∷ []
    ) m (λ m. outcome_of (replies.Published k.0 (root_of k.1)) (record m { published = m.published ++ record { height = k.0; state = k.1; layers = whole_layers k.1 } ∷ [] }))) s (λ k last.
    if_not_refused IsSound (
    (is_low k.0 m.published, HeightLow)
    ∷ (nat_le MAX_PUBLISHED (length m.published), ManyMarks)
    ∷ []
    ) m (λ m. outcome_of (replies.Published k.0 (root_of k.1)) (record m { published = m.published ++ record { height = k.0; state = k.1; layers = whole_layers k.1 } ∷ [] })) s (λ no.
    checkpoint_sound m k s last no.0 (leb-false MAX_PUBLISHED (length m.published) no.1.0)))

-- ---- purge

purge_sound : (m : Machine) (h : ℕ) → IsSound m → IsSound (record m { published = without_published m.published h })
purge_sound m h s =
    let keep : Published → Bool = λ p. not (p.height == h) in
    let less : Published → Published → Type 0 = λ a b. a.height < b.height in
    record {
      live = s.live;
      memory = s.memory;
      within = s.within;
      ascends = s.ascends;
      published = record {
        ascend = later_to_map (λ p. p.height) Below (filter keep m.published) (later_kept less keep m.published (later_of_map (λ p. p.height) Below m.published s.published.ascend));
        few = omega (arith, s.published.few, fewer keep m.published);
        each = all_filtered MayBegin keep m.published s.published.each;
      };
      above = all_filtered (λ p. p.height < m.height) keep m.published s.above;
      few_in_memory = s.few_in_memory;
    }

pub purge_kept : (m : Machine) (h : ℕ) → IsSound m → IsSound (purge_step m h).after
purge_kept m h s =
    if_not_refused IsSound ((not (is_some (published_at h m.published)), NoHeight) ∷ (is_newest h m.published, LastHeight) ∷ []) m
    (λ m. outcome_of replies.Fine (record m { published = without_published m.published h })) s (λ no. purge_sound m h s)

-- ---- reset

pub reset_kept : (m : Machine) (h : ℕ) → IsSound m → IsSound (reset_step m h).after
reset_kept m h s =
    if_not_refused IsSound ((not (is_some (published_at h m.published)), NoHeight) ∷ (not (is_newest h m.published), HeightLow) ∷ []) m
    (λ m. outcome_of replies.Fine (resumed_at (newest m.published) m)) s (λ no. resumed_is_sound m s)
