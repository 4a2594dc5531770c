-- Opens the definitions of this crate on an `unfolding` line, so that they compute on literals.
use Rattle.hex.specs.Hex.{encode_with}
use Rattle.page_spec.specs.PageFile.{index_text}
use Rattle.page_spec.specs.Layers.{stale, merged_pages, memory_from}

unfoldable pub pages_compute : Unit {0}
unfolding encode_with stale merged_pages index_text memory_from
pages_compute = tt
