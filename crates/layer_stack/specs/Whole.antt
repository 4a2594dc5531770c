-- The layers that page files have are whole.
use Rattle.std.specs.Prelude.{List, [], ◌∷◌, length, ◌*◌}
use Rattle.std.specs.List.{AllByRecursion}
use Rattle.std.proofs.Common.{◌∙◌, ap, sym}
use Rattle.format_spec.specs.declared.limits.TheConstants.{PAGE_SIZE}
use Rattle.page_spec.specs.Layers.{Layer}
use Rattle.page_spec.specs.PageFile.{PageIndex}
use Rattle.page_spec.specs.Whole.{IsWhole}
use Rattle.disk_model.specs.Files.{Files}
use Rattle.page_file.specs.Files.{NumberedFile}
use Rattle.layer_stack.specs.Stacks.{AreLayers}

pub layers_whole : (files : Files) (stack : List NumberedFile) (layers : List Layer) → AreLayers files stack layers → AllByRecursion IsWhole layers
layers_whole files [] [] there = tt
layers_whole files [] (l ∷ layers) there = absurd there
layers_whole files (file ∷ stack) [] there = absurd there
layers_whole files (file ∷ stack) (l ∷ layers) there = (
  there.0.there.good.whole ∙ ap (λ (i : PageIndex). PAGE_SIZE * length i.numbers) (sym there.0.index),
  layers_whole files stack layers there.1,
)
