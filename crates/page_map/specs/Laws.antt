-- What is so of maps, by the definitions alone.
use Rattle.std.specs.Prelude.{◌≡◌, ℕ, Bool, false, List, [], ◌∷◌, Option}
use Rattle.std.proofs.Common.{sym, ◌∙◌, ap, subst}
use Rattle.std.specs.List.{AllByRecursion}
use Rattle.format_spec.specs.Bytes.{Bytes}
use Rattle.disk_model.specs.declared.name.Name.{Name}
use Rattle.disk_model.specs.declared.name.Name.TheVariants.{Page}
use Rattle.disk_model.specs.Files.{Files}
use Rattle.disk_model.specs.View.{DiskView}
use Rattle.disk_model.specs.Frame.{TouchesOnly}
use Rattle.page_file.specs.Files.{NumberedFile}
use Rattle.layer_stack.specs.Laws.{layers_in_others}
use Rattle.page_map.specs.Maps.{OwnPage, own_in, stamp_of}
use Rattle.page_map.specs.Reads.{bytes_with}
use Rattle.page_map.specs.Plain.{PlainMap, SameMap}
use Rattle.page_map.specs.Memories.{HasBytes, IsMemoryOf, IsSealed, AreSealed}
use Rattle.layer_stack.specs.Stacks.{AreLayers}
use Rattle.state_spec.specs.State.{Memory}

-- A map that another call has changed nothing of is the memory that it was.
pub memory_of_same : (files : Files) (b : ℕ) (m n : PlainMap) (memory : Memory) → SameMap n m → IsMemoryOf files b m memory → IsMemoryOf files b n memory
memory_of_same files b m n memory same is =
    let own : (λ page. own_in page m.own) ≡ (λ page. own_in page n.own) = λ i page. sym (same.own page) i in record {
      reads = record {
        layers = is.reads.layers;
        there = subst (λ (stack : List NumberedFile). AreLayers files stack is.reads.layers) (sym same.stack) is.reads.there;
        same = is.reads.same ∙ ap (λ (count : ℕ). bytes_with is.reads.layers (λ page. own_in page m.own) count) (sym same.length)
            ∙ ap (λ (has : ℕ → Option OwnPage). bytes_with is.reads.layers has n.length) own;
      };
      rounds = λ page. ap stamp_of (same.own page) ∙ is.rounds page;
    }

-- Over other files that have the same page files as the stack names, a map reads the same.
pub reads_in_others : (f g : Files) (m : PlainMap) (bytes : Bytes) → AllByRecursion (λ file. g (Page file.number) ≡ f (Page file.number)) m.stack → HasBytes f m bytes → HasBytes g m bytes
reads_in_others f g m bytes same reads = record { layers = reads.layers; there = layers_in_others f g m.stack reads.layers same reads.there; same = reads.same }

pub memory_in_others : (f g : Files) (b : ℕ) (m : PlainMap) (memory : Memory) → AllByRecursion (λ file. g (Page file.number) ≡ f (Page file.number)) m.stack → IsMemoryOf f b m memory → IsMemoryOf g b m memory
memory_in_others f g b m memory same is = record { reads = reads_in_others f g m memory.bytes same is.reads; rounds = is.rounds }

-- page files that the calls are not given
abbrev pub SparesFiles : (Name → Bool) → List NumberedFile → Type 0
SparesFiles given stack = AllByRecursion (λ file. given (Page file.number) ≡ false) stack

pub files_spared : (given : Name → Bool) (old new : DiskView) (stack : List NumberedFile) → SparesFiles given stack → TouchesOnly given old new → AllByRecursion (λ file. new.state.files (Page file.number) ≡ old.state.files (Page file.number)) stack
files_spared given old new [] spares touches = tt
files_spared given old new (file ∷ stack) spares touches = (touches.reads (Page file.number) spares.0, files_spared given old new stack spares.1 touches)

-- A map goes on to be its memory through calls that are given none of its page files.
pub memory_kept : (given : Name → Bool) (old new : DiskView) (b : ℕ) (m : PlainMap) (memory : Memory) → SparesFiles given m.stack → TouchesOnly given old new → IsMemoryOf old.state.files b m memory → IsMemoryOf new.state.files b m memory
memory_kept given old new b m memory spares touches is = memory_in_others old.state.files new.state.files b m memory (files_spared given old new m.stack spares touches) is

-- Sealed page files stay sealed.
pub sealed_kept : (given : Name → Bool) (old new : DiskView) (stack : List NumberedFile) → SparesFiles given stack → TouchesOnly given old new → AreSealed old.state stack → AreSealed new.state stack
sealed_kept given old new [] spares touches sealed = tt
sealed_kept given old new (file ∷ stack) spares touches sealed = (one, sealed_kept given old new stack spares.1 touches sealed.1)
  where
    one : IsSealed new.state file
    one = let has = sealed.0.known in record {
      known = (has.0, record { text = has.1.text; there = touches.reads (Page file.number) spares.0 ∙ has.1.there; good = has.1.good });
      firm = touches.firm (Page file.number) spares.0 sealed.0.firm;
    }
