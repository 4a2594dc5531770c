use Rattle.std.proofs.Common.{◌∙◌, ℕ, List, map, ap, Vec, Global, Option}
use Rattle.std.proofs.lemmas.Result.{IfOk-weaker}
use Rattle.format_spec.specs.Bytes.{Bytes}
use Rattle.state_spec.specs.Files.{memories_in}
use Rattle.state_spec.specs.Manifest.{manifest_from, file_sums}
use Rattle.state_spec.specs.Root.{root_of_meta, meta_of}
use Rattle.store_spec.specs.Mark.{MarkMemory}
use Rattle.sys_state.specs.System.{part_of}
use Rattle.whole_state.proofs.Marked.{counted, memories_fit, root_is}
use Rattle.whole_state.proofs.marking.mark_of.Goals as goal

abbrev hashes : Vec (Option Bytes) Global → List (Option Bytes)
hashes list = list.items

abbrev bytes : Vec ℕ Global → Bytes
bytes memory = memory.items

pub mems_of-requires : goal.mems_of-requires
mems_of-requires c =
    counted c.deref.result.now c.args.memories.now c.args.stacks.now hashes bytes (ap (map hashes) c.deref.ensures.value ∙ c.in_ok-sums.ensures) c.requires.stacks

pub made-requires-clause-fit : goal.made-requires-clause-fit
made-requires-clause-fit c =
    memories_fit c.in_ok-mems.mems.items (memories_in (part_of c.args.sys.now)) (map bytes c.args.memories.now) c.args.stacks.now c.in_ok-mems.ensures.layers
    (c.in_ok-mems.ensures.sums ∙ ap (map hashes) c.deref.ensures.value ∙ c.in_ok-sums.ensures) c.requires.fit c.requires.stacks

pub returns-clause-layers : goal.returns-clause-layers
returns-clause-layers c = IfOk-weaker c.made.result _ _ (λ m is. ap (map (λ (x : MarkMemory). x.layers)) is ∙ c.in_ok-mems.ensures.layers) c.made.ensures.memories

pub returns-clause-sums : goal.returns-clause-sums
returns-clause-sums c =
    IfOk-weaker c.made.result _ _ (λ m is. ap (map (λ (x : MarkMemory). x.sums)) is ∙ c.in_ok-mems.ensures.sums ∙ ap (map hashes) c.deref.ensures.value ∙ c.in_ok-sums.ensures) c.made.ensures.memories

pub returns-clause-root : goal.returns-clause-root
returns-clause-root c =
    let sums = c.in_ok-mems.ensures.sums ∙ ap (map hashes) c.deref.ensures.value ∙ c.in_ok-sums.ensures in
    let made = ap (λ (hs : List (List (Option Bytes))). root_of_meta (meta_of (manifest_from 1 (file_sums (part_of c.args.sys.now) hs)))) sums in
    IfOk-weaker c.made.result _ _ (λ m is state parts. root_is m.root c.args.sys.now (map bytes c.args.memories.now) state c.requires.fit parts (is ∙ made)) c.made.ensures.root
