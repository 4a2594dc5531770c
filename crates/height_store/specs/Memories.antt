-- Memories that layers give have as many bytes as their pages.
use Rattle.std.specs.Prelude.{◌≡◌, ℕ, ◌*◌, List, [], ◌∷◌, length, map, zip, refl}
use Rattle.std.specs.List.{AllZip}
use Rattle.format_spec.specs.Bytes.{Bytes}
use Rattle.format_spec.specs.declared.limits.TheConstants.{PAGE_SIZE}
use Rattle.page_spec.specs.Layers.{Layer, memory_from}
use Rattle.page_spec.specs.Whole.{length-memory_from}
use Rattle.disk_model.specs.Files.{Files}
use Rattle.page_file.specs.Files.{NumberedFile}
use Rattle.layer_stack.specs.Stacks.{AreLayers}
use Rattle.layer_stack.specs.Whole.{layers_whole}
use Rattle.height_store.specs.Store.{FitsPages}

abbrev from_layers : List (Bytes × ℕ) → List (List Layer) → List Bytes
from_layers ms layers = map (λ e. memory_from e.0.1 e.1) (zip ms layers)

-- as many bytes as the memories' pages have
pub memories_long : (files : Files) (ms : List (Bytes × ℕ)) (stacks : List (List NumberedFile)) (layers : List (List Layer)) → AllZip FitsPages stacks ms → AllZip (AreLayers files) stacks layers
    → map (λ bytes. length bytes) (from_layers ms layers) ≡ map (λ m. m.1 * PAGE_SIZE) ms
memories_long files [] [] [] fits there = refl
memories_long files [] [] (l ∷ layers) fits there = absurd there
memories_long files [] (stack ∷ stacks) layers fits there = absurd fits
memories_long files (m ∷ ms) [] layers fits there = absurd fits
memories_long files (m ∷ ms) (stack ∷ stacks) [] fits there = absurd there
memories_long files (m ∷ ms) (stack ∷ stacks) (l ∷ layers) fits there =
    let here = length-memory_from m.1 l (layers_whole files stack l there.0) in
    let rest = memories_long files ms stacks layers fits.1 there.1 in
    λ i. here i ∷ rest i
