use Rattle.std.proofs.Common.{◌∙◌, ℕ, List, Option, length, map, ap, sym, subst, Vec, Global}
use Rattle.format_spec.specs.Bytes.{Bytes, parts}
use Rattle.format_spec.specs.Hashes.{chunk_hash}
use Rattle.format_spec.specs.declared.limits.TheConstants.{CHUNK_SIZE}
use Rattle.state_spec.specs.Files.{memories_in}
use Rattle.state_spec.specs.Manifest.{Manifest, manifest_from, file_sums}
use Rattle.state_spec.specs.Root.{root_of_meta, meta_of}
use Rattle.store_spec.specs.Mark.{MarkMemory}
use Rattle.sys_state.specs.System.{part_of}
use Rattle.manifest.specs.Fits.{FitSums}
use Rattle.mark_file.proofs.MemoryLaws.{sums_fit}
use Rattle.mark_file.proofs.SystemRows.{system_rows}
use Rattle.mark_file.proofs.mark.Mark.made.Goals as goal

abbrev hashes : Vec (Option Bytes) Global → List (Option Bytes)
hashes list = list.items

abbrev sums : MarkMemory → List (Option Bytes)
sums m = m.sums

pub from_sums-requires-clause-fit : goal.from_sums-requires-clause-fit
from_sums-requires-clause-fit c =
    let made = ap (map hashes) c.deref-2.ensures.value ∙ c.in_ok-sums.ensures ∙ ap (map sums) c.deref.ensures.value in
    subst (FitSums (part_of c.args.sys.now)) (sym made) (sums_fit c.args.version c.args.mems.items (memories_in (part_of c.args.sys.now)) c.requires.fit)

pub last_hashes-requires : goal.last_hashes-requires
last_hashes-requires c =
    (system_rows c.in_ok-manifest.manifest c.args.version (part_of c.args.sys.now) (map hashes c.deref-2.result.now) (length c.bytes-2.result.now) c.in_ok-manifest.ensures.value (ap length (c.bytes-2.ensures.value ∙ c.requires.text))).0

pub returns-clause-root : goal.returns-clause-root
returns-clause-root c =
    let made = ap (map hashes) c.deref-2.ensures.value ∙ c.in_ok-sums.ensures ∙ ap (map sums) c.deref.ensures.value in
    c.root-root.ensures ∙ ap root_of_meta c.in_ok-meta.ensures.value ∙ ap (λ (m : Manifest). root_of_meta (meta_of m)) c.in_ok-manifest.ensures.value
    ∙ ap (λ (hs : List (List (Option Bytes))). root_of_meta (meta_of (manifest_from c.args.version (file_sums (part_of c.args.sys.now) hs)))) made

pub returns-clause-mark : goal.returns-clause-mark
returns-clause-mark c =
    let s = part_of c.args.sys.now in
    let rows = system_rows c.in_ok-manifest.manifest c.args.version s (map hashes c.deref-2.result.now) (length c.bytes-2.result.now) c.in_ok-manifest.ensures.value (ap length (c.bytes-2.ensures.value ∙ c.requires.text)) in
    record {
      version = c.requires.version;
      from_one = c.requires.from_one;
      height_fits = c.requires.at_most;
      system_good = c.requires.good;
      system_spelled = c.requires.text;
      memories_fit = c.requires.fit;
      system_sums = c.in_ok-system_sums.ensures ∙ rows.1 ∙ ap (λ (x : Bytes). map chunk_hash (parts CHUNK_SIZE x)) (sym c.requires.text);
      root = returns-clause-root c;
    }
