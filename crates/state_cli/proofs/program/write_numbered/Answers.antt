use Rattle.std.proofs.Common.{◌≡◌, List, ℕ, [], ◌++◌, ◌∷◌, ◌∙◌, subst}
use Rattle.std.specs.Fmt.{decimal}
use Rattle.std.specs.Io.KnownBytes.{Appends}
use Rattle.std.proofs.lemmas.Result.{on_ok_weaker, on_err_weaker}
use Rattle.io_edge.specs.Faults.{IsProperPrefix}
use Rattle.io_edge.proofs.Known.{given_twice}
use Rattle.state_cli.proofs.Prefixes.{prefix_of_two, prefix_in_middle, prefix_behind}
use Rattle.state_cli.proofs.program.write_numbered.Goals as goal
use Rattle.format_spec.proofs.Lists.{on_err}

pub returns-in_err-write_all-clause-prefix : goal.returns-in_err-write_all-clause-prefix
returns-in_err-write_all-clause-prefix g c =
    let h = c.in_err-write_all.ensures.prefix in
    on_err c.from_residual.result (h.0, prefix_of_two h.0 c.args.text.now (decimal c.args.number) (10 ∷ []) h.1, h.2)

pub returns-in_err-write_all-2-clause-prefix : goal.returns-in_err-write_all-2-clause-prefix
returns-in_err-write_all-2-clause-prefix g c =
    let digits : c.as_bytes.result.now ≡ decimal c.args.number = c.as_bytes.ensures.value ∙ c.format.ensures.text in
    let h = c.in_err-write_all-2.ensures.prefix in
    let part = subst (λ (d : List ℕ). IsProperPrefix h.0 d) digits h.1 in
    on_err c.from_residual-in_err-write_all-2.result
    (c.args.text.now ++ h.0, prefix_in_middle c.args.text.now h.0 (decimal c.args.number) (10 ∷ []) part, given_twice _ _ _ c.args.text.now h.0 c.in_ok-write_all.ensures.all h.2)

pub returns-clause-all : goal.returns-clause-all
returns-clause-all g c =
    let sink = g.K.Sink.written in
    let digits : c.as_bytes.result.now ≡ decimal c.args.number = c.as_bytes.ensures.value ∙ c.format.ensures.text in
    let second = subst (λ (d : List ℕ). Appends (sink c.write_all.new.sink) (sink c.write_all-2.new.sink) d) digits c.in_ok-write_all-2.ensures.all in
    let two = given_twice _ _ _ c.args.text.now (decimal c.args.number) c.in_ok-write_all.ensures.all second in
    on_ok_weaker c.write_all-3.result (λ third. given_twice _ _ _ (c.args.text.now ++ decimal c.args.number) (10 ∷ []) two third) c.write_all-3.ensures.all

pub returns-clause-prefix : goal.returns-clause-prefix
returns-clause-prefix g c =
    let sink = g.K.Sink.written in
    let digits : c.as_bytes.result.now ≡ decimal c.args.number = c.as_bytes.ensures.value ∙ c.format.ensures.text in
    let second = subst (λ (d : List ℕ). Appends (sink c.write_all.new.sink) (sink c.write_all-2.new.sink) d) digits c.in_ok-write_all-2.ensures.all in
    let two = given_twice _ _ _ c.args.text.now (decimal c.args.number) c.in_ok-write_all.ensures.all second in
    on_err_weaker c.write_all-3.result (λ third. (c.args.text.now ++ decimal c.args.number ++ third.0, prefix_behind (c.args.text.now ++ decimal c.args.number) third.0 (10 ∷ []) third.1, given_twice _ _ _ (c.args.text.now ++ decimal c.args.number) third.0 two third.2)) c.write_all-3.ensures.prefix
