use Rattle.std.proofs.Common.{◌≡◌, ◌∙◌, ◌+◌, ◌-◌, ◌++◌, ◌∷◌, [], ℕ, None, vec_len, replicate, refl, sym, ap, subst, arith}
use Rattle.page_pool.specs.Chains.{IsSound}
use Rattle.page_pool.specs.declared.slot.Slot.{Slot}
use Rattle.page_pool.proofs.Sound.{sound-push-at, seen-push}
use Rattle.page_pool.proofs.pool.PagePool.reserve.Goals as goal

pub loop-bytes-preserved : goal.loop-bytes-preserved
loop-bytes-preserved c =
    let popped = c.in-Some.ensures.cases in
    let left : c.args.n - c.self.inside.spare - vec_len c.pop.new.self ≡ c.args.n - c.self.inside.spare - vec_len c.loop-bytes.pages + 1 = omega (arith, popped, c.loop-bytes.invariant.left) in
    let last : Slot = record { count = 0; next = c.len-in-Some.result + 1; bytes = c.in-Some.bytes } in
    record {
      seen = rw c.push_reserved.ensures.items (seen-push c.loop-bytes.self-inside.slots.items last c.args.self.now.slots (c.args.n - c.self.inside.spare - vec_len c.loop-bytes.pages) refl c.loop-bytes.invariant.seen ∙ ap (λ (k : ℕ). c.args.self.now.slots ++ replicate k None) (sym left));
      sound = rw c.push_reserved.ensures.items (
          subst (λ (m : ℕ). IsSound (c.loop-bytes.self-inside.slots.items ++ last ∷ []) c.loop-bytes.self-inside.free (c.loop-bytes.self-inside.spare + m)) (sym left)
          (sound-push-at c.loop-bytes.self-inside.slots.items c.loop-bytes.self-inside.free c.loop-bytes.self-inside.spare
          (c.args.n - c.self.inside.spare - vec_len c.loop-bytes.pages) last c.loop-bytes.invariant.sound refl
          (omega arith) (omega (arith, popped, c.loop-bytes.invariant.len, c.loop-bytes.invariant.small))));
      spare = omega arith;
      more = omega arith;
      left = omega (arith, popped);
      len = omega (arith, popped);
      room = omega arith;
      small = omega arith;
    }
