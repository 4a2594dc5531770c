use Rattle.std.proofs.Common.{◌≡◌, ℕ, ap}
use Rattle.format_spec.specs.Bytes.{Bytes}
use Rattle.sync_spec.specs.Messages as spec
use Rattle.sync_plan.specs.declared.item.Item.{Item}
use Rattle.sync_plan.specs.declared.item.Item.TheVariants.{Meta, Piece, Chunk}
use Rattle.sync_plan.specs.declared.ask.Ask.{Ask}
use Rattle.sync_plan.specs.declared.answer.Content.{Content}
use Rattle.sync_plan.specs.declared.answer.Content.TheVariants.{Gone, Here}
use Rattle.sync_plan.specs.declared.answer.Answer.{Answer}
use Rattle.sync_plan.specs.Views.{item_of, ask_of, content_of, answer_of}
use Rattle.sync_plan.proofs.laws.views_tell_values_apart.Goals as goal

item_is : (a b : Item) → item_of a ≡ item_of b → a ≡ b
item_is Meta Meta e = cc
item_is Meta (Piece j) e = absurd cc
item_is Meta (Chunk j) e = absurd cc
item_is (Piece i) Meta e = absurd cc
item_is (Piece i) (Piece j) e = cc
item_is (Piece i) (Chunk j) e = absurd cc
item_is (Chunk i) Meta e = absurd cc
item_is (Chunk i) (Piece j) e = absurd cc
item_is (Chunk i) (Chunk j) e = cc

ask_is : (a b : Ask) → ask_of a ≡ ask_of b → a ≡ b
ask_is a b e =
    let height : a.target.height ≡ b.target.height = ap (λ (x : spec.Ask). x.height) e in
    let root : a.target.root ≡ b.target.root = ap (λ (x : spec.Ask). x.root) e in
    let item : a.item ≡ b.item = item_is a.item b.item (ap (λ (x : spec.Ask). x.item) e) in
    λ i. record { target = record { height = height i; root = root i }; item = item i }

content_is : (a b : Content) → content_of a ≡ content_of b → a ≡ b
content_is Gone Gone e = cc
content_is Gone (Here s) e = absurd cc
content_is (Here s) Gone e = absurd cc
content_is (Here s) (Here t) e = cc

answer_is : (a b : Answer) → answer_of a ≡ answer_of b → a ≡ b
answer_is a b e =
    let ask : a.ask ≡ b.ask = ask_is a.ask b.ask (ap (λ (x : spec.Answer). x.ask) e) in
    let content : a.content ≡ b.content = content_is a.content b.content (ap (λ (x : spec.Answer). x.content) e) in
    λ i. record { ask = ask i; content = content i }

pub returns : goal.returns
returns c = record { asks = ask_is; answers = answer_is }
