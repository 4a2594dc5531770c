-- What a line is answered, by what it is.
use Rattle.std.proofs.Common.{◌≡◌, ◌++◌, [], Bool, IsTrue, Some, None, refl, ◌∙◌, sym, subst}
use Rattle.std.specs.Prelude.{codes}
use Rattle.format_spec.specs.Bytes.{Bytes}
use Rattle.disk_model.specs.View.{DiskView, LeavesOnly}
use Rattle.height_store.specs.Kept.{StandsForEither}
use Rattle.machine_spec.specs.Answers.{turn_of, answer, reply_to, after_line}
use Rattle.machine_spec.specs.Machine.{Machine}
use Rattle.machine_spec.specs.Step.{step}
use Rattle.script_text.specs.Commands.{parsed_line}
use Rattle.script_text.specs.Texts.{reply_text, bad_line_text}
use Rattle.script_text.specs.declared.command.Command.{Command}
use Rattle.script_text.specs.declared.parsing.Parsed.{Parsed}
use Rattle.script_text.specs.declared.parsing.Parsed.TheVariants.{Silent, BadLine, Line}
use Rattle.script_text.specs.declared.reply.Reply.{Reply}
use Rattle.state_cli.specs.Turns.{AnswersLine, KeepsImages}

module _ (tells : Bool) (kept : Machine → Type 0) (line : Bytes) where
  pub silent : (bytes : Bytes) → parsed_line line ≡ Silent → bytes ≡ [] → AnswersLine tells kept kept line bytes
  unfolding answer reply_to after_line
  silent bytes is none = (None, record { replied = rw is tt; bytes_are = none ∙ (rw is refl); plays = λ told m k. (rw is refl, rw is k) })

  pub bad : (bytes : Bytes) → parsed_line line ≡ BadLine → bytes ≡ bad_line_text ++ codes "\n" → AnswersLine tells kept kept line bytes
  unfolding answer reply_to after_line
  bad bytes is text = (None, record { replied = rw is tt; bytes_are = text ∙ (rw is refl); plays = λ told m k. (rw is refl, rw is k) })

  pub spoken : (now_kept : Machine → Type 0) (command : Command) (bytes : Bytes) → parsed_line line ≡ Line command
      → ((reply : Reply) × (bytes ≡ reply_text reply ++ codes "\n") × (IsTrue tells → (m : Machine) → kept m → (reply ≡ (step m command).reply) × now_kept (step m command).after))
      → AnswersLine tells kept now_kept line bytes
  unfolding answer reply_to after_line
  spoken now_kept command bytes is (reply, text, plays) = (
    Some reply,
    record {
      replied = rw is tt;
      bytes_are = text ∙ (rw is refl);
      plays = λ told m k. let p = plays told m k in (rw (is, p.0) refl, rw is p.1);
    },
  )

  pub images_of : (old new : DiskView) (command : Command) → parsed_line line ≡ Line command
      → (IsTrue tells → (m : Machine) → kept m → LeavesOnly old new (StandsForEither m.published (step m command).after.published))
      → KeepsImages tells kept old new line
  unfolding after_line
  images_of old new command is images = λ told m k. rw is (images told m k)
