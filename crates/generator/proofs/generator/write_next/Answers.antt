use Rattle.std.proofs.Common.{◌∷◌, ℕ, ap, sym, ◌∙◌, arith}
use Rattle.generator.specs.Draws.{x_after}
use Rattle.generator.specs.Places.{lines_left, line_behind}
use Rattle.generator.specs.Script.{canister_line, write_line}
use Rattle.generator.proofs.Steps.{at_canisters, at_writes, at_behind, at_last, canister_done, write_done, behind_done}
use Rattle.generator.proofs.generator.write_next.Goals as goal

pub after_canister-requires-clause-canister : goal.after_canister-requires-clause-canister
after_canister-requires-clause-canister c = at_canisters c.args.blocks _ c.args.place c.in-Canisters.is c.requires.place

pub after_write-requires-clause-block : goal.after_write-requires-clause-block
after_write-requires-clause-block c = (at_writes c.args.blocks _ _ c.args.place c.in-Writes.is c.requires.place).0

pub after_write-requires-clause-done : goal.after_write-requires-clause-done
after_write-requires-clause-done c = (at_writes c.args.blocks _ _ c.args.place c.in-Writes.is c.requires.place).1

pub write_behind-requires : goal.write_behind-requires
write_behind-requires c = let h = (at_behind c.args.blocks c.in-Behind.block c.in-Behind.done c.args.place c.in-Behind.is c.requires.place).0 in omega arith

pub after_behind-requires-clause-block : goal.after_behind-requires-clause-block
after_behind-requires-clause-block c = (at_behind c.args.blocks _ _ c.args.place c.in-Behind.is c.requires.place).0

pub after_behind-requires-clause-done : goal.after_behind-requires-clause-done
after_behind-requires-clause-done c = (at_behind c.args.blocks _ _ c.args.place c.in-Behind.is c.requires.place).1

pub write_end-requires : goal.write_end-requires
write_end-requires c = at_last c.args.blocks _ c.args.place c.in-Last.is c.requires.place

pub returns-in_ok-write_canister-in-Canisters : goal.returns-in_ok-write_canister-in-Canisters
returns-in_ok-write_canister-in-Canisters c = (
  c.after_canister.ensures.place,
  (
    canister_line c.in-Canisters.done,
    canister_done c.args.blocks c.args.x c.in-Canisters.done c.args.place c.after_canister.result c.in-Canisters.is
        (at_canisters c.args.blocks _ c.args.place c.in-Canisters.is c.requires.place) (c.after_canister.ensures.left c.args.x),
    c.in_ok-write_canister-in-Canisters.ensures,
  ),
)

pub returns-in_ok-after-in-Writes : goal.returns-in_ok-after-in-Writes
returns-in_ok-after-in-Writes c =
    let after = c.in_ok-after-in-Writes.ensures.after in
    let left = write_done c.args.blocks c.args.x c.in-Writes.block c.in-Writes.done c.args.place c.after_write.result c.in-Writes.is
    (at_writes c.args.blocks _ _ c.args.place c.in-Writes.is c.requires.place).1 (c.after_write.ensures.left (x_after 3 c.args.x)) in (
      c.after_write.ensures.place,
      (
        write_line c.args.x,
        left ∙ ap (λ (x : ℕ). write_line c.args.x ∷ lines_left c.args.blocks x c.after_write.result) (sym after),
        c.in_ok-after-in-Writes.ensures.line,
      ),
    )

pub returns-in_ok-write_behind-in-Behind : goal.returns-in_ok-write_behind-in-Behind
returns-in_ok-write_behind-in-Behind c = (
  c.after_behind.ensures.place,
  (
    line_behind c.in-Behind.block c.in-Behind.done,
    behind_done c.args.blocks c.args.x c.in-Behind.block c.in-Behind.done c.args.place c.after_behind.result c.in-Behind.is
        (at_behind c.args.blocks _ _ c.args.place c.in-Behind.is c.requires.place).1 (c.after_behind.ensures.left c.args.x),
    c.in_ok-write_behind-in-Behind.ensures,
  ),
)
