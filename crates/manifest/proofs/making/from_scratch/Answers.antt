use Rattle.std.proofs.Common.{◌≡◌, ◌∙◌, ℕ, List, Option, map, ap, sym, subst, Vec, Global}
use Rattle.std.proofs.lemmas.Result.{IfOk-weaker}
use Rattle.format_spec.specs.Bytes.{Bytes}
use Rattle.state_spec.specs.State.{State, system_of, memory_bytes}
use Rattle.state_spec.specs.Manifest.{Manifest, manifest_from, file_sums, manifest_of}
use Rattle.sys_state.specs.System.{System, part_of, kept_of}
use Rattle.manifest.specs.Fits.{FitSums}
use Rattle.sys_state.proofs.OfState.{parts_of_state}
use Rattle.manifest.proofs.States.{fit_hashes, of_state, scratch_hashes}
use Rattle.manifest.proofs.making.from_scratch.Goals as goal

abbrev hashes : Vec (Option Bytes) Global → List (Option Bytes)
hashes list = list.items

abbrev bytes : Vec ℕ Global → Bytes
bytes memory = memory.items

pub from_sums-requires-clause-fit : goal.from_sums-requires-clause-fit
from_sums-requires-clause-fit c =
    let memories = c.args.memories.now in
    let all = scratch_hashes c.args.version hashes bytes c.loop-memory.sums.items memories c.loop-memory.memory-index c.loop-memory-test.false c.loop-memory.invariant in
    subst (FitSums (part_of c.args.sys.now)) (sym (ap (λ (sums : List (Vec (Option Bytes) Global)). map hashes sums) c.deref-2.ensures.value ∙ all))
    (fit_hashes c.args.version (part_of c.args.sys.now) (map bytes memories) c.requires.fit)

pub returns-clause-state : goal.returns-clause-state
returns-clause-state c =
    let p = part_of c.args.sys.now in
    let memories = c.args.memories.now in
    let all = scratch_hashes c.args.version hashes bytes c.loop-memory.sums.items memories c.loop-memory.memory-index c.loop-memory-test.false c.loop-memory.invariant in
    IfOk-weaker c.from_sums.result (λ (m : Manifest). m ≡ manifest_from c.args.version (file_sums p (map hashes c.deref-2.result.now)))
    (λ (m : Manifest). (s : State) → s.version ≡ c.args.version → system_of s ≡ p → memory_bytes s ≡ map bytes memories → m ≡ manifest_of s)
    (λ m is s one parts-are bytes-are.
    is ∙ ap (λ (hs : List (List (Option Bytes))). manifest_from c.args.version (file_sums p hs)) (ap (λ (sums : List (Vec (Option Bytes) Global)). map hashes sums) c.deref-2.ensures.value ∙ all)
    ∙ of_state c.args.version s p (map bytes memories) c.requires.fit one parts-are bytes-are)
    c.from_sums.ensures.value

pub returns-clause-kept : goal.returns-clause-kept
returns-clause-kept c =
    IfOk-weaker c.from_sums.result
    (λ (m : Manifest). (s : State) → s.version ≡ c.args.version → system_of s ≡ part_of c.args.sys.now → memory_bytes s ≡ map bytes c.args.memories.now → m ≡ manifest_of s)
    (λ (m : Manifest). (s : State) → s.version ≡ c.args.version → kept_of s ≡ c.args.sys.now → memory_bytes s ≡ map bytes c.args.memories.now → m ≡ manifest_of s)
    (λ m all s one kept. all s one (sym (parts_of_state s) ∙ ap (λ (k : System). part_of k) kept)) (returns-clause-state c)
