use Rattle.std.proofs.Math.Seq.{get_or-append_seam}
use Rattle.std.proofs.Common.{List, ◌∷◌, ◌++◌, ◌≤◌, get_or, ◌≡◌, ℕ, Some, Result, Ok, Err, sym, ap, ◌∙◌, subst}
use Rattle.std.specs.Option.{option_map}
use Rattle.std.specs.Result.{result_ok}
use Rattle.format_spec.specs.declared.limits.TheConstants.{MAX_MEMORY_PAGES}
use Rattle.format_spec.specs.Bytes.{Bytes, bytes_cmp}
use Rattle.sys_state.specs.Calls.{pages_of}
use Rattle.state_spec.specs.Places.{Places, Stands}
use Rattle.sys_state.specs.System.{System, IsWithinLimits}
use Rattle.sys_state.proofs.Kept.{found_fits, canisters_fit}
use Rattle.sys_state.specs.declared.mem.Mem.{Mem}
use Rattle.sys_state.specs.declared.record.CanisterRecord.{CanisterRecord}
use Rattle.sys_state.proofs.state.SysState.pages.Goals as goal

stands : (id : Bytes) (s : System) (r : Result ℕ ℕ) (i : ℕ) → result_ok r ≡ Some i → Places bytes_cmp id s.canisters r → Stands bytes_cmp id s.canisters i
stands id s (Ok j) i e p = subst (Stands bytes_cmp id s.canisters) (cc e) p
stands id s (Err j) i e p = absurd (cc e)

record_at : (id : Bytes) (cs : List (Bytes × CanisterRecord)) (i : ℕ) (s : Stands bytes_cmp id cs i) (x : Bytes × CanisterRecord) → x ≡ get_or cs i x → x ≡ (id, s.value)
record_at id cs i s x read =
    read ∙ ap (λ (l : List (Bytes × CanisterRecord)). get_or l i x) s.at.split
    ∙ ap (λ k. get_or (s.at.before ++ (id, s.value) ∷ s.at.after) k x) (sym s.at.count)
    ∙ get_or-append_seam s.at.before (id, s.value) s.at.after x

pages_at : (id : Bytes) (s : System) (mem : Mem) (i : ℕ) (at : Stands bytes_cmp id s.canisters i) (x : Bytes × CanisterRecord) (n : ℕ) → x ≡ get_or s.canisters i x → n ≡ pages_of mem x.1 → n ≡ pages_of mem at.value
pages_at id s mem i at x n read pages = pages ∙ ap (λ (e : Bytes × CanisterRecord). pages_of mem e.1) (record_at id s.canisters i at x read)

pub returns-clause-value : goal.returns-clause-value
returns-clause-value c =
    let s = c.args.self.now in
    let at = stands c.args.id.now s c.place.result c.in_ok-i.i (sym c.ok.ensures.value ∙ c.in_ok-i.was) c.place.ensures in
    let read : c.index.result.now ≡ get_or s.canisters c.in_ok-i.i c.index.result.now = c.index.ensures ∙ ap (λ (t : System). get_or t.canisters c.in_ok-i.i c.index.result.now) c.self.view_is in
    ap (λ (n : ℕ). Some n) (pages_at c.args.id.now s c.args.mem c.in_ok-i.i at c.index.result.now c.pages.result read c.pages.ensures) ∙ sym (ap (option_map (pages_of c.args.mem)) at.found)

pub returns-clause-limit : goal.returns-clause-limit
returns-clause-limit c =
    let s = c.args.self.now in
    let at = stands c.args.id.now s c.place.result c.in_ok-i.i (sym c.ok.ensures.value ∙ c.in_ok-i.was) c.place.ensures in
    let read : c.index.result.now ≡ get_or s.canisters c.in_ok-i.i c.index.result.now = c.index.ensures ∙ ap (λ (t : System). get_or t.canisters c.in_ok-i.i c.index.result.now) c.self.view_is in
    let kept : IsWithinLimits s = subst IsWithinLimits c.self.view_is c.self.invariant.0 in
    subst (λ (n : ℕ). n ≤ MAX_MEMORY_PAGES) (sym (pages_at c.args.id.now s c.args.mem c.in_ok-i.i at c.index.result.now c.pages.result read c.pages.ensures))
    (found_fits s.canisters (canisters_fit s kept) c.args.id.now c.args.mem at.value at.found)
