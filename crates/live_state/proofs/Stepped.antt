-- The steps of the machine beside what the manager does.
use Rattle.std.proofs.Common.{◌≡◌, Bool, true, false, [], ◌∷◌, Option, Some, None, Result, Ok, Err, refl, ◌∙◌, subst}
use Rattle.std.specs.Option.{is_some}
use Rattle.std.specs.Prelude.{if◌then◌else◌}
use Rattle.std.specs.Result.{OnOk, OnErr}
use Rattle.byte_codec.specs.declared.error.NoMemory.{NoMemory}
use Rattle.sys_state.specs.Calls as calls
use Rattle.sys_state.specs.declared.error.SysError.{SysError}
use Rattle.sys_state.specs.declared.error.SysError.TheVariants as errors
use Rattle.script_text.specs.declared.reply.Reply.{Reply}
use Rattle.script_text.specs.declared.reply.Reply.TheVariants.{Fine, Refused}
use Rattle.script_text.specs.declared.reply.Refusal.{Refusal}
use Rattle.machine_spec.specs.Machine.{Machine, Outcome, unless, unless_none}
use Rattle.live_state.specs.Changes.{refusal_of, Refuses, Answers, Alters}
use Rattle.live_state.specs.StateKept.{StateView, KeepsState, AfterState, live_of}

-- ---- replies to changes of the system

-- a change of the system that names its refusal
pub from_answer : (why : Option SysError) (r : Result (Unit {0}) SysError) (result : Result Reply NoMemory) (done same : Type 0) → r ≡ calls.answer why → Answers r result → OnOk r done → OnErr r same → Alters why result done same
from_answer None (Ok x) (Ok reply) done same e a d s = (a, d)
from_answer None (Ok x) (Err no_memory) done same e a d s = absurd a
from_answer None (Err error) result done same e a d s = absurd (cc e)
from_answer (Some error) (Ok x) result done same e a d s = absurd (cc e)
from_answer (Some error) (Err other) (Ok reply) done same e a d s =
    let one : other ≡ error = cc e in
    (subst (λ (x : SysError). Refuses (refusal_of x) (Ok reply)) one a, s)
from_answer (Some error) (Err other) (Err no_memory) done same e a d s = s

-- the same of a call that may want memory
pub from_answers : (why : Option SysError) (r : Result (Unit {0}) SysError) (result : Result Reply NoMemory) (done same : Type 0) → calls.Answers why r → Answers r result → OnOk r done → OnErr r same → Alters why result done same
from_answers None (Ok x) (Ok reply) done same e a d s = (a, d)
from_answers None (Ok x) (Err no_memory) done same e a d s = absurd a
from_answers None (Err error) (Ok reply) done same e a d s =
    let memory : error ≡ errors.Memory = e in
    absurd (subst (λ (x : SysError). Refuses (refusal_of x) (Ok reply)) memory a)
from_answers None (Err error) (Err no_memory) done same e a d s = s
from_answers (Some error) (Ok x) result done same e a d s = absurd (cc e)
from_answers (Some error) (Err other) (Ok reply) done same e a d s =
    let one : other ≡ error = cc e in
    (subst (λ (x : SysError). Refuses (refusal_of x) (Ok reply)) one a, s)
from_answers (Some error) (Err other) (Err no_memory) done same e a d s = s

-- ---- refusals in their order

refuses : (e : SysError) (r : Refusal) (reply : Reply) → refusal_of e ≡ Some r → Refuses (refusal_of e) (Ok reply) → reply ≡ Refused r
refuses e r reply p h = subst (λ (x : Option Refusal). Refuses x (Ok reply)) p h

pub alters_two : (b c : Bool) (e f : SysError) (r s : Refusal) (result : Result Reply NoMemory) (now : StateView) (m : Machine) (act : Machine → Outcome) (done same : Type 0)
    → refusal_of e ≡ Some r → refusal_of f ≡ Some s → Alters (if b then Some e else if c then Some f else None) result done same → (same → KeepsState now (live_of m)) → (done → (Fine ≡ (act m).reply) × KeepsState now (live_of (act m).after))
    → AfterState result now (unless ((b, r) ∷ (c, s) ∷ []) m act)
alters_two b c e f r s (Err x) now m act done same p q h keep did = tt
alters_two true c e f r s (Ok reply) now m act done same p q h keep did = (refuses e r reply p h.0, keep h.1)
alters_two false true e f r s (Ok reply) now m act done same p q h keep did = (refuses f s reply q h.0, keep h.1)
alters_two false false e f r s (Ok reply) now m act done same p q h keep did = (h.0 ∙ (did h.1).0, (did h.1).1)

pub alters_three : (b c d : Bool) (e f g : SysError) (r s t : Refusal) (result : Result Reply NoMemory) (now : StateView) (m : Machine) (act : Machine → Outcome) (done same : Type 0)
    → refusal_of e ≡ Some r → refusal_of f ≡ Some s → refusal_of g ≡ Some t → Alters (if b then Some e else if c then Some f else if d then Some g else None) result done same → (same → KeepsState now (live_of m)) → (done → (Fine ≡ (act m).reply) × KeepsState now (live_of (act m).after))
    → AfterState result now (unless ((b, r) ∷ (c, s) ∷ (d, t) ∷ []) m act)
alters_three b c d e f g r s t (Err x) now m act done same p q o h keep did = tt
alters_three true c d e f g r s t (Ok reply) now m act done same p q o h keep did = (refuses e r reply p h.0, keep h.1)
alters_three false true d e f g r s t (Ok reply) now m act done same p q o h keep did = (refuses f s reply q h.0, keep h.1)
alters_three false false true e f g r s t (Ok reply) now m act done same p q o h keep did = (refuses g t reply o h.0, keep h.1)
alters_three false false false e f g r s t (Ok reply) now m act done same p q o h keep did = (h.0 ∙ (did h.1).0, (did h.1).1)

-- the canister is looked for first
pub alters_found : {C : Type 0} (found : Option C) (e : SysError) (r : Refusal) (result : Result Reply NoMemory) (now : StateView) (m : Machine) (act : C → Outcome) (done same : Type 0)
    → refusal_of e ≡ Some r → Alters (if is_some found then None else Some e) result done same → (same → KeepsState now (live_of m)) → ((c : C) → found ≡ Some c → done → (Fine ≡ (act c).reply) × KeepsState now (live_of (act c).after))
    → AfterState result now (unless_none found r m act)
alters_found found e r (Err x) now m act done same p h keep did = tt
alters_found None e r (Ok reply) now m act done same p h keep did = (refuses e r reply p h.0, keep h.1)
alters_found (Some c) e r (Ok reply) now m act done same p h keep did = (h.0 ∙ (did c refl h.1).0, (did c refl h.1).1)

-- what holds where a change was done and where it was not
pub alters_keeps : (why : Option SysError) (result : Result Reply NoMemory) (done same P : Type 0) → Alters why result done same → (done → P) → (same → P) → P
alters_keeps why (Err x) done same P h d s = s h
alters_keeps None (Ok reply) done same P h d s = d h.1
alters_keeps (Some e) (Ok reply) done same P h d s = s h.1

-- the same, where what was done was not refused
pub alters_passed : (why : Option SysError) (result : Result Reply NoMemory) (done same P : Type 0) → Alters why result done same → (why ≡ None → done → P) → (same → P) → P
alters_passed why (Err x) done same P h d s = s h
alters_passed None (Ok reply) done same P h d s = d refl h.1
alters_passed (Some e) (Ok reply) done same P h d s = s h.1

-- the same change, seen otherwise
pub alters_map : (why : Option SysError) (result : Result Reply NoMemory) (done same did stays : Type 0) → Alters why result done same → (done → did) → (same → stays) → Alters why result did stays
alters_map why (Err x) done same did stays h d s = s h
alters_map None (Ok reply) done same did stays h d s = (h.0, d h.1)
alters_map (Some e) (Ok reply) done same did stays h d s = (h.0, s h.1)
