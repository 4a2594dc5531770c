use Rattle.std.proofs.Common.{◌≡◌, ◌∙◌, subst}
use Rattle.sys_state.specs.System.{part_of}
use Rattle.chunk_index.specs.Index.{place_in, first_place}
use Rattle.height_store.specs.Chunks.{chunks_in}
use Rattle.height_store.specs.Store.{StoredHeight}
use Rattle.height_store.proofs.store.PublishedHeight.find_place.Goals as goal

pub returns : goal.returns
returns c = c.find.ensures ∙ subst (λ (h : StoredHeight). place_in c.self.inside.chunks c.args.size c.args.hash.now ≡ first_place (chunks_in h.mark (part_of h.system)) c.args.size c.args.hash.now) c.self.view_is (c.self.invariant.chunks c.args.size c.args.hash.now)
