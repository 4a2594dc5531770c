use Rattle.std.proofs.Common.{◌≡◌, ◌++◌, refl, ap, sym, ◌∙◌, subst, lit<, lit≤, arith}
use Rattle.format_spec.specs.Bytes.{Bytes}
use Rattle.store_spec.specs.Computing.{stores_compute}
use Rattle.page_spec.specs.Example.{first_page}
use Rattle.page_spec.specs.PageFile.{PageIndex, index_text, IsPageFile}
use Rattle.store_spec.specs.Example.{larger_index}
use Rattle.page_spec.proofs.PageFiles.{page_file_once}
use Rattle.store_spec.proofs.refusals.a_page_file_of_a_larger_memory.Goals as goal
use Rattle.std.proofs.lemmas.Option.{same_Some}

larger : IsPageFile (index_text larger_index ++ first_page) larger_index first_page
unfolding stores_compute
larger = record {
  good = record { some_memory = lit≤ tt; memory_fits = lit≤ tt; some_page = lit≤ tt; ascends = refl; within = (lit< tt, tt) };
  spelled = refl;
  whole = refl;
}

pub returns : goal.returns
returns c = λ files l there h.
    let text : h.text ≡ index_text larger_index ++ first_page = same_Some h.text (index_text larger_index ++ first_page) (sym h.there ∙ there) in
    let same = (page_file_once (index_text larger_index ++ first_page) l.index larger_index l.pages first_page (subst (λ (s : Bytes). IsPageFile s l.index l.pages) text h.good) larger).0 in
    let two = ap (λ (x : PageIndex). x.memory) same in
    absurd (omega (arith, h.fits, two))
