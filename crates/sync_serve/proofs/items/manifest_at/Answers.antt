use Rattle.std.proofs.Common.{◌≡◌, ◌∙◌, ℕ, List, map, sym, ap, subst, Vec, Global, Option, IsTrue}
use Rattle.std.proofs.lemmas.Result.{IfOk-weaker}
use Rattle.format_spec.specs.Bytes.{Bytes}
use Rattle.format_spec.specs.Versions.{is_version}
use Rattle.state_spec.specs.Manifest.{manifest_from, file_sums}
use Rattle.store_spec.specs.Mark.{Mark, MarkMemory}
use Rattle.sys_state.specs.System.{System, part_of}
use Rattle.manifest.specs.Fits.{FitSums}
use Rattle.sync_serve.proofs.Manifests.{sums_in, mark_manifest, mark_fits}
use Rattle.sync_serve.proofs.items.manifest_at.Goals as goal

abbrev hashes : Vec (Option Bytes) Global → List (Option Bytes)
hashes list = list.items

abbrev sums : MarkMemory → List (Option Bytes)
sums m = m.sums

pub from_sums-requires-clause-version : goal.from_sums-requires-clause-version
from_sums-requires-clause-version c =
    let same = ap (λ (m : Mark). m.version) (c.mark.view_is ∙ c.mark-mark.ensures.mark) in
    subst (λ (v : ℕ). IsTrue (is_version v)) (sym same) c.mark-mark.ensures.good.parts.mark.version

pub from_sums-requires-clause-fit : goal.from_sums-requires-clause-fit
from_sums-requires-clause-fit c =
    let made : map hashes c.deref-2.result.now ≡ sums_in c.args.found.now =
    ap (map hashes) c.deref-2.ensures.value ∙ c.in_ok-sums.ensures ∙ ap (map sums) c.deref.ensures.value ∙ ap (λ (m : Mark). map sums m.memories) (c.mark.view_is ∙ c.mark-mark.ensures.mark) in
    subst (λ (s : System). FitSums (part_of s) (map hashes c.deref-2.result.now)) (sym c.sys.ensures.sys) (subst (FitSums (part_of c.args.found.now.system)) (sym made) (mark_fits c.args.found.now c.mark-mark.ensures.good))

pub returns-clause-value : goal.returns-clause-value
returns-clause-value c = λ p known.
    let made : map hashes c.deref-2.result.now ≡ sums_in c.args.found.now =
    ap (map hashes) c.deref-2.ensures.value ∙ c.in_ok-sums.ensures ∙ ap (map sums) c.deref.ensures.value ∙ ap (λ (m : Mark). map sums m.memories) (c.mark.view_is ∙ c.mark-mark.ensures.mark) in
    let same = ap (λ (m : Mark). m.version) (c.mark.view_is ∙ c.mark-mark.ensures.mark) in
    IfOk-weaker c.from_sums.result _ _ (λ m is. is ∙ (λ i. manifest_from (same i) (file_sums (part_of (c.sys.ensures.sys i)) (made i))) ∙ mark_manifest c.args.found.now p known) c.from_sums.ensures.value
