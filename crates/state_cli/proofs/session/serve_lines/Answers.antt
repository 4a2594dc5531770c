use Rattle.std.proofs.Common.{◌≡◌, ℕ, List, [], ◌∷◌, Ok, Err, Option, refl, subst, sym, inl, arith}
use Rattle.std.proofs.lemmas.Result.{err_from_is_err_and}
use Rattle.std.specs.Option.{option_to_list}
use Rattle.std.specs.Io.KnownBytes.{IsAtEnd, Consumes}
use Rattle.format_spec.specs.declared.limits.TheConstants.{MAX_LINE, MAX_LINES}
use Rattle.disk_model.specs.Moments.{at_start}
use Rattle.io_edge.specs.Moves.{Moves}
use Rattle.io_edge.proofs.Known.{gives_nothing}
use Rattle.script_text.specs.declared.ending.RunStop.TheVariants.{ReadFault, ManyLines}
use Rattle.state_manager.specs.Kept.{Keeps}
use Rattle.state_cli.proofs.Progress.{begun, goes_on, joins}
use Rattle.state_cli.proofs.Standing.{keeps_stand}
use Rattle.state_cli.proofs.Turns.{ends_there, part_only}
use Rattle.state_cli.specs.Ends.{IsOpen}
use Rattle.state_cli.specs.Turns.{TakesTurn}
use Rattle.state_cli.specs.declared.session.Continuation.{Continuation}
use Rattle.state_cli.specs.declared.session.Continuation.TheVariants.{More, Finished}
use Rattle.state_cli.proofs.session.serve_lines.Goals as goal

pub loop-before-init : goal.loop-before-init
loop-before-init g c =
    let view = g.D.Disk.view c.args.disk.now in
    let held = c.args.session.now.manager in
    record {
      session = begun g.D.Disk.tells (Keeps held view.state) (Keeps held view.state) view view _ _ (λ told first k. (k, at_start view _ (keeps_stand held view.state first k)));
      usable = c.requires.usable;
      numbers = omega (arith, c.requires.numbers);
      read = omega arith;
      write = omega arith;
      calls = omega arith;
    }

pub returns-in_err-serve_line-clause-session : goal.returns-in_err-serve_line-clause-session
returns-in_err-serve_line-clause-session g c =
    let stop = err_from_is_err_and c.from_residual.result c.from_residual.ensures.1 in
    let disk = g.D.Disk in
    let old = disk.view c.args.disk.now in
    let mid = disk.view c.loop-before.disk in
    let new = disk.view c.serve_line.new.disk in
    let turn = c.in_err-serve_line.ensures in
    rw (stop.1, stop.2) (joins c.loop-before.before (Err c.in_err-serve_line.field-0.0) disk.tells (Keeps c.args.session.now.manager old.state)
    (Keeps c.loop-before.session.manager mid.state) IsOpen (IsAtEnd (g.S.Source.left c.serve_line.new.source)) old mid new _ _ _ _ _ _ turn.begun c.loop-before.invariant.session turn.turn)

pub returns-in-Finished-clause-session : goal.returns-in-Finished-clause-session
returns-in-Finished-clause-session g c =
    let left = g.S.Source.left in
    let written = g.K.Sink.written in
    let disk = g.D.Disk in
    let old = disk.view c.args.disk.now in
    let mid = disk.view c.loop-before.disk in
    let new = disk.view c.serve_line.new.disk in
    let kept = Keeps c.loop-before.session.manager mid.state in
    let now_kept = Keeps c.serve_line.new.session.manager new.state in
    let ended = IsAtEnd (left c.serve_line.new.source) in
    let turn = subst (λ (t : Continuation). Moves (left c.loop-before.source) (left c.serve_line.new.source) (written c.loop-before.sink)
    (written c.serve_line.new.sink) (TakesTurn (Ok t) c.loop-before.before disk.tells kept now_kept ended mid new)) c.in-Finished.is c.in_ok-serve_line.ensures.turn in
    joins c.loop-before.before (Ok tt) disk.tells (Keeps c.args.session.now.manager old.state) kept IsOpen ended old mid new _ _ _ _ _ _ (λ h. h) c.loop-before.invariant.session turn

pub loop-before-preserved : goal.loop-before-preserved
loop-before-preserved g c =
    let left = g.S.Source.left in
    let written = g.K.Sink.written in
    let disk = g.D.Disk in
    let old = disk.view c.args.disk.now in
    let mid = disk.view c.loop-before.disk in
    let new = disk.view c.serve_line.new.disk in
    let kept = Keeps c.loop-before.session.manager mid.state in
    let now_kept = Keeps c.serve_line.new.session.manager new.state in
    let ended = IsAtEnd (left c.serve_line.new.source) in
    let turn = subst (λ (t : Continuation). Moves (left c.loop-before.source) (left c.serve_line.new.source) (written c.loop-before.sink) (written c.serve_line.new.sink) (TakesTurn (Ok t) c.loop-before.before disk.tells kept now_kept ended mid new)) c.in-More.is c.in_ok-serve_line.ensures.turn in
    record {
      session = goes_on c.loop-before.before disk.tells (Keeps c.args.session.now.manager old.state) kept now_kept old mid new _ _ _ _ _ _ c.loop-before.invariant.session turn;
      usable = c.in_ok-serve_line.ensures.usable;
      numbers = omega (arith, c.in_ok-serve_line.ensures.few.most, c.loop-before.invariant.numbers);
      read = omega arith;
      write = omega arith;
      calls = omega arith;
    }

pub returns-in-Ok-None-clause-session : goal.returns-in-Ok-None-clause-session
returns-in-Ok-None-clause-session g c =
    let left = g.S.Source.left in
    let disk = g.D.Disk in
    let old = disk.view c.args.disk.now in
    let now = disk.view c.loop-before.disk in
    let held = c.loop-before.session.manager in
    let kept = Keeps held now.state in
    let ended = IsAtEnd (left c.next_byte.new.source) in
    let all : c.loop-before.before ≡ MAX_LINES = omega arith in
    let byte = subst (λ (b : Option ℕ). Consumes (left c.loop-before.source) (left c.next_byte.new.source) (option_to_list b)) c.in-Ok-None.field-0-is c.in-Ok-None.ensures.bytes in
    joins c.loop-before.before (Ok tt) disk.tells (Keeps c.args.session.now.manager old.state) kept IsOpen ended old now now _ _ _ _ _ _ (λ h. h) c.loop-before.invariant.session
    (record {
      taken = [];
      gained = [];
      from_source = byte;
      to_sink = gives_nothing _;
      holds = ends_there disk.tells kept ended (Ok tt) c.loop-before.before now [] (omega (arith, all))
          (record { none_begun = refl; nothing = refl; none_cut = refl; at_end = c.in-Ok-None.ensures.end c.in-Ok-None.field-0-is }) (λ m k. keeps_stand held now.state m k) (λ m k. keeps_stand held now.state m k);
    })

pub returns-in-Ok-Some-clause-session : goal.returns-in-Ok-Some-clause-session
returns-in-Ok-Some-clause-session g c =
    let left = g.S.Source.left in
    let disk = g.D.Disk in
    let old = disk.view c.args.disk.now in
    let now = disk.view c.loop-before.disk in
    let held = c.loop-before.session.manager in
    let kept = Keeps held now.state in
    let all : c.loop-before.before ≡ MAX_LINES = omega arith in
    let byte = subst (λ (b : Option ℕ). Consumes (left c.loop-before.source) (left c.next_byte.new.source) (option_to_list b)) c.in-Ok-Some.field-0-is c.in-Ok-Some.ensures.bytes in
    joins c.loop-before.before (Err ManyLines) disk.tells (Keeps c.args.session.now.manager old.state) kept IsOpen (IsAtEnd (left c.next_byte.new.source)) old now now _ _ _ _ _ _ (λ h. h) c.loop-before.invariant.session
    (record {
      taken = c.in-Ok-Some.field-0-0 ∷ [];
      gained = [];
      from_source = byte;
      to_sink = gives_nothing _;
      holds = ends_there disk.tells kept (IsAtEnd (left c.next_byte.new.source)) (Err ManyLines) c.loop-before.before now (c.in-Ok-Some.field-0-0 ∷ []) (omega (arith, all))
          (record { between = record { none_begun = refl; fed = refl; none_cut = refl }; all = all; one = refl }) (λ m k. keeps_stand held now.state m k) (λ m k. keeps_stand held now.state m k);
    })

pub returns-in-Err-clause-session : goal.returns-in-Err-clause-session
returns-in-Err-clause-session g c =
    let left = g.S.Source.left in
    let disk = g.D.Disk in
    let old = disk.view c.args.disk.now in
    let now = disk.view c.loop-before.disk in
    let held = c.loop-before.session.manager in
    let kept = Keeps held now.state in
    let all : c.loop-before.before ≡ MAX_LINES = omega arith in
    joins c.loop-before.before (Err ReadFault) disk.tells (Keeps c.args.session.now.manager old.state) kept IsOpen (IsAtEnd (left c.next_byte.new.source)) old now now _ _ _ _ _ _ (λ h. h) c.loop-before.invariant.session
    (record {
      taken = [];
      gained = [];
      from_source = c.in-Err.ensures.bytes;
      to_sink = gives_nothing _;
      holds = ends_there disk.tells kept (IsAtEnd (left c.next_byte.new.source)) (Err ReadFault) c.loop-before.before now [] (omega (arith, all))
          (record { between = record { none_begun = refl; fed = refl; none_cut = refl }; one = refl; short = omega arith; few = omega (arith, all) }) (λ m k. keeps_stand held now.state m k) (λ m k. keeps_stand held now.state m k);
    })
