-- The values of this crate as those of the definitions.
use Rattle.sync_spec.specs.Messages as spec
use Rattle.sync_spec.specs.Serving as serving
use Rattle.sync_plan.specs.declared.item.Item.{Item}
use Rattle.sync_plan.specs.declared.item.Item.TheVariants.{Meta, Piece, Chunk}
use Rattle.sync_plan.specs.declared.ask.Ask.{Ask}
use Rattle.sync_plan.specs.declared.answer.Content.{Content}
use Rattle.sync_plan.specs.declared.answer.Content.TheVariants.{Gone, Here}
use Rattle.sync_plan.specs.declared.answer.Answer.{Answer}
use Rattle.sync_plan.specs.declared.right.Known.{Known}
use Rattle.sync_plan.specs.declared.right.Known.TheVariants as known

abbrev pub item_of : Item → spec.Item
item_of Meta = spec.meta
item_of (Piece i) = spec.piece i
item_of (Chunk i) = spec.chunk i

abbrev pub ask_of : Ask → spec.Ask
ask_of a = record { height = a.target.height; root = a.target.root; item = item_of a.item }

abbrev pub content_of : Content → spec.Content
content_of Gone = spec.gone
content_of (Here bytes) = spec.here bytes

abbrev pub answer_of : Answer → spec.Answer
answer_of a = record { ask = ask_of a.ask; content = content_of a.content }

abbrev pub known_of : Known → serving.Known
known_of (known.Root hash) = serving.root hash.now
known_of (known.Meta meta) = serving.pieces meta.now
known_of (known.Rows manifest) = serving.rows manifest.now
