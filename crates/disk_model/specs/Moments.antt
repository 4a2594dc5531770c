-- Laws of images since a moment, and how a run of calls goes on.
use Rattle.std.specs.Prelude.{ℕ, zero, suc, ◌≤◌, List, [], ◌∷◌, ◌++◌, length, drop, Result, Ok, Err, refl}
use Rattle.std.proofs.Common.{inl, inr, sym, ◌∙◌, ap, subst, arith, append_assoc}
use Rattle.std.proofs.lemmas.List.{append-nil, drop_at}
use Rattle.disk_model.specs.declared.disk.DiskError.{DiskError}
use Rattle.disk_model.specs.declared.disk.DiskError.TheVariants.{Fault, Memory}
use Rattle.disk_model.specs.Files.{Files}
use Rattle.disk_model.specs.State.{DiskState, ShowsOneOf, IsImageNow}
use Rattle.disk_model.specs.Call.{Call, under_way, HasFailed}
use Rattle.disk_model.specs.View.{DiskView, moment, IsImageOfOne, IsImageSince, EachImage, EachImageOf, LeavesOnly, Does, Looks, LooksOrNot}
use Rattle.disk_model.specs.Laws.{IsSound, under_way_from_done}

-- An image now is an image since every moment.
pub since_from_now : (v : DiskView) (t : ℕ) (image : Files) → IsImageNow v.state image → IsImageSince v t image
since_from_now v t image now = inl now

longer : (t u : ℕ) (states : List DiskState) (image : Files) → t ≤ u → IsImageOfOne (drop u states) image → IsImageOfOne (drop t states) image
longer zero zero states image le h = h
longer zero (suc u) [] image le h = h
longer zero (suc u) (s ∷ states) image le h = inr (longer zero u states image (omega arith) h)
longer (suc t) zero states image le h = absurd (omega arith)
longer (suc t) (suc u) [] image le h = h
longer (suc t) (suc u) (s ∷ states) image le h = longer t u states image (omega arith) h

-- A later moment has no image that an earlier one lacks.
pub since_from_later : (v : DiskView) (t u : ℕ) (image : Files) → t ≤ u → IsImageSince v u image → IsImageSince v t image
since_from_later v t u image le (inl now) = inl now
since_from_later v t u image le (inr had) = inr (longer t u v.past image le had)

-- ---- runs of calls

of_one : (states : List DiskState) (P : Files → Type 0) (image : Files) → EachImageOf states P → IsImageOfOne states image → P image
of_one [] P image each h = absurd h
of_one (s ∷ states) P image each (inl here) = each.0 image here
of_one (s ∷ states) P image each (inr there) = of_one states P image each.1 there

-- Of each image since the call began P holds.
pub each_since : (old new : DiskView) (P : Files → Type 0) (image : Files) → LeavesOnly old new P → IsImageSince new (moment old) image → P image
each_since old new P image leaves (inl now) = leaves.now image now
each_since old new P image leaves (inr had) =
    of_one leaves.since P image leaves.each (subst (λ (l : List DiskState). IsImageOfOne l image) (ap (drop (length old.past)) leaves.grows ∙ drop_at old.past leaves.since (length old.past) refl) had)

each_append : (xs ys : List DiskState) (P : Files → Type 0) → EachImageOf xs P → EachImageOf ys P → EachImageOf (xs ++ ys) P
each_append [] ys P none each = each
each_append (x ∷ xs) ys P each more = (each.0, each_append xs ys P each.1 more)

-- before the first call
pub at_start : (v : DiskView) (P : Files → Type 0) → EachImage v.state P → LeavesOnly v v P
at_start v P now = record { since = []; grows = sym (append-nil v.past); each = tt; now = now }

-- two runs after each other
pub then : (old mid new : DiskView) (P : Files → Type 0) → LeavesOnly old mid P → LeavesOnly mid new P → LeavesOnly old new P
then old mid new P first second = record {
  since = first.since ++ second.since;
  grows = second.grows ∙ ap (λ (l : List DiskState). l ++ second.since) first.grows ∙ append_assoc old.past first.since second.since;
  each = each_append first.since second.since P first.each second.each;
  now = second.now;
}

weaker_of : (states : List DiskState) (P Q : Files → Type 0) → ((image : Files) → P image → Q image) → EachImageOf states P → EachImageOf states Q
weaker_of [] P Q weaker each = tt
weaker_of (s ∷ states) P Q weaker each = (λ image here. weaker image (each.0 image here), weaker_of states P Q weaker each.1)

pub weaker : (old new : DiskView) (P Q : Files → Type 0) → ((image : Files) → P image → Q image) → LeavesOnly old new P → LeavesOnly old new Q
weaker old new P Q step leaves = record {
  since = leaves.since;
  grows = leaves.grows;
  each = weaker_of leaves.since P Q step leaves.each;
  now = λ image here. step image (leaves.now image here);
}

failed_image : (call : Call) (old new : DiskState) (image : Files) → HasFailed call old new → IsImageNow new image → IsImageNow (under_way call old) image
failed_image call old new image failed now =
    subst (λ marks. ShowsOneOf marks (under_way call old).outcomes image) failed.loose (subst (λ outcomes. ShowsOneOf new.loose outcomes image) failed.outcomes now)

-- One call: it is enough to know of the images in the middle of it, whatever it answers.
pub one_call : {T : Type 0} (call : Call) (result : Result T DiskError) (old new : DiskView) (P : Files → Type 0) → IsSound old.state → Does call result old new → EachImage old.state P → EachImage (under_way call old.state) P → LeavesOnly old new P
one_call call (Ok x) old new P sound does before middle = record {
  since = under_way call old.state ∷ [];
  grows = does.past;
  each = (middle, tt);
  now = λ image now. middle image (under_way_from_done call old.state image sound (subst (λ s. IsImageNow s image) does.state now));
}
one_call call (Err Fault) old new P sound does before middle = record {
  since = under_way call old.state ∷ [];
  grows = does.past;
  each = (middle, tt);
  now = λ image now. middle image (failed_image call old.state new.state image does.state now);
}
one_call call (Err Memory) old new P sound does before middle = subst (λ v. LeavesOnly old v P) (sym does) (at_start old P before)

looked : (most : ℕ) (old new : DiskView) (P : Files → Type 0) → Looks most old new → EachImage old.state P → LeavesOnly old new P
looked most old new P reads_only before = record {
  since = old.state ∷ [];
  grows = reads_only.past;
  each = (before, tt);
  now = λ image now. before image (subst (λ s. IsImageNow s image) reads_only.state now);
}

-- One call that only looks.
pub one_look : {T : Type 0} (most : ℕ) (result : Result T DiskError) (old new : DiskView) (P : Files → Type 0) → LooksOrNot most result old new → EachImage old.state P → LeavesOnly old new P
one_look most (Ok x) old new P reads_only before = looked most old new P reads_only before
one_look most (Err Fault) old new P reads_only before = looked most old new P reads_only before
one_look most (Err Memory) old new P reads_only before = subst (λ v. LeavesOnly old v P) (sym reads_only) (at_start old P before)
