use Rattle.std.proofs.Common.{◌≡◌, ℕ, ◌+◌, ◌++◌, ◌∷◌, [], ap, sym, ◌∙◌, arith}
use Rattle.std.proofs.lemmas.Result.{err_from_is_err_and}
use Rattle.std.proofs.lemmas.List.{map_push}
use Rattle.format_spec.proofs.Each.{each_more, each_ends}
use Rattle.state_spec.specs.State.{all_pages}
use Rattle.state_spec.specs.SystemText.{canister_after}
use Rattle.sys_state.specs.System.{IsCanister, parts, part_of_record}
use Rattle.sys_state.proofs.Kept.{pages-join, pages-one}
use Rattle.format_spec.proofs.Lists.{all_join}
use Rattle.byte_codec.proofs.Stops.{stops}
use Rattle.sys_state.proofs.reading.canisters.read_canisters.Goals as goal

pub returns-in_err-canister-clause-read : goal.returns-in_err-canister-clause-read
returns-in_err-canister-clause-read c =
    let p = err_from_is_err_and c.from_residual.result c.from_residual.ensures.1 in
    rw (p.1, p.2) (stops c.in_err-canister.field-0.0 (canister_after c.args.version) c.args.count c.loop.counter (parts c.loop.canisters.items) c.loop.reader _ c.loop-test.true (rw c.deref.ensures.value at c.in_err-canister.ensures.read) c.loop.invariant.read)

pub loop-preserved : goal.loop-preserved
loop-preserved c =
    let before = c.loop.canisters.items in
    let x = c.in_ok-canister.canister in
    let items : c.push.new.self.items ≡ before ++ x ∷ [] = c.in_ok-push.ensures.items in
    let views : parts c.push.new.self.items ≡ parts before ++ (x.0, part_of_record x.1) ∷ [] = ap parts items ∙ map_push (λ d. (d.0, part_of_record d.1)) before x in
    let sum : all_pages (parts (before ++ x ∷ [])) ≡ all_pages (parts before) + (x.1.heap + x.1.stable) = pages-join before (x ∷ []) ∙ ap (λ (n : ℕ). all_pages (parts before) + n) (pages-one x) in
    record {
      read = rw views (sym (each_more (canister_after c.args.version) c.args.count c.loop.counter (parts before) c.loop.reader (x.0, part_of_record x.1) c.read_canister.new.reader c.loop-test.true (rw c.deref.ensures.value at c.in_ok-canister.ensures.read)) ∙ c.loop.invariant.read);
      pages = rw items (omega (arith, sum, c.loop.invariant.pages));
      small = omega (arith, c.in_ok-canister.ensures.small);
      bytes = rw items (all_join IsCanister before (x ∷ []) c.loop.invariant.bytes (c.in_ok-canister.ensures.bytes, tt));
      births = rw items (all_join (λ d. d.1.birth ≡ c.args.birth) before (x ∷ []) c.loop.invariant.births (c.in_ok-canister.ensures.birth, tt));
    }

pub returns-clause-read : goal.returns-clause-read
returns-clause-read c = sym c.loop.invariant.read ∙ each_ends (canister_after c.args.version) c.args.count c.loop.counter (parts c.loop.canisters.items) c.loop.reader c.loop-test.false
