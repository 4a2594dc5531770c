use Rattle.std.proofs.Common.{◌∙◌, sym, ap}
use Rattle.height_store.specs.KnownLaws.{shown_known}
use Rattle.format_spec.specs.Bytes.{Bytes}
use Rattle.sync_spec.specs.Messages.{here}
use Rattle.sync_spec.specs.Serving.{content_of}
use Rattle.sync_plan.specs.declared.item.Item.{Item}
use Rattle.sync_plan.specs.Views.{item_of}
use Rattle.sync_serve.proofs.answers.content_of.Goals as goal

pub returns-in_ok-meta_of-in-Meta-clause-content : goal.returns-in_ok-meta_of-in-Meta-clause-content
returns-in_ok-meta_of-in-Meta-clause-content g c = λ told p shows.
    ap (λ (bytes : Bytes). here bytes) (c.in_ok-meta_of-in-Meta.ensures p (shown_known _ c.args.found.now p shows)) ∙ ap (λ (item : Item). content_of p.state (item_of item)) (sym c.in-Meta.is)

pub returns-in_ok-piece_of-in-Piece-clause-content : goal.returns-in_ok-piece_of-in-Piece-clause-content
returns-in_ok-piece_of-in-Piece-clause-content g c = λ told p shows.
    c.in_ok-piece_of-in-Piece.ensures p (shown_known _ c.args.found.now p shows) ∙ ap (λ (item : Item). content_of p.state (item_of item)) (sym c.in-Piece.is)
