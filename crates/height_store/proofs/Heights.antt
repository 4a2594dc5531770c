-- A height of a store, and the page files of its memories.
use Rattle.std.proofs.Common.{◌≡◌, ℕ, ◌<◌, List, length, reverse, get_or, Option, Some, None, slice_get, IsSome, IsSomeAnd, inl, inr, refl, sym, ◌∙◌, ap, subst, arith}
use Rattle.std.specs.List.{AllByRecursion}
use Rattle.std.proofs.lemmas.Bool.{cases_lt}
use Rattle.std.proofs.lemmas.List.Elements.{All-from_recursion, All-get_or}
use Rattle.std.proofs.lemmas.Option.{slice_get_past, slice_get-get_or, same_Some}
use Rattle.std.proofs.lemmas.Slice.Zip.{AllZip-long}
use Rattle.format_spec.specs.Bytes.{Bytes}
use Rattle.state_spec.specs.Files.{memories_in}
use Rattle.sys_state.specs.System.{part_of}
use Rattle.page_spec.specs.Layers.{Layer, page_from}
use Rattle.disk_model.specs.Files.{Files}
use Rattle.page_file.specs.Files.{NumberedFile, IsAsKnown}
use Rattle.layer_stack.specs.Stacks.{AreLayers}
use Rattle.height_store.specs.Kept.{HasStacks}
use Rattle.height_store.specs.Store.{StoredHeight, IsHeight, FitsPages}

within_some : (xs : List (Bytes × ℕ)) (i : ℕ) → IsSome (slice_get xs i) → i < length xs
within_some xs i there = elim (cases_lt i (length xs)) [
  | inl lt ↦ lt
  | inr past ↦ absurd (none_there (subst (λ (o : Option (Bytes × ℕ)). IsSome o) (slice_get_past xs i past) there))
]
  where
    none_there : IsSome {T = Bytes × ℕ} None → ⊥
    none_there e = cc

pub some_there : {X : Type 0} (P : X → Type 0) (o : Option X) → IsSomeAnd o P → IsSome o
some_there P None there = absurd there
some_there P (Some x) there = refl

-- a memory that the system text has has page files
pub has_stack : (inside h : StoredHeight) (file : ℕ) → inside ≡ h → IsHeight inside → IsSome (slice_get (memories_in (part_of h.system)) file) → file < length inside.stacks
has_stack inside h file is good there =
    let here = subst (λ (x : StoredHeight). IsSome (slice_get (memories_in (part_of x.system)) file)) (sym is) there in
    omega (arith, within_some (memories_in (part_of inside.system)) file here, AllZip-long FitsPages inside.stacks (memories_in (part_of inside.system)) good.parts.fits)

pub stack_kept : (files : Files) (inside h : StoredHeight) (file : ℕ) (stack : List NumberedFile) → inside ≡ h → HasStacks files h → file < length inside.stacks → stack ≡ get_or inside.stacks file stack → AllByRecursion (IsAsKnown files) stack
stack_kept files inside h file stack is has lt at =
    let P = AllByRecursion (IsAsKnown files) in
    subst P (sym at) (All-get_or P inside.stacks file stack lt (All-from_recursion P inside.stacks (subst (HasStacks files) (sym is) has)))

-- it is that of the value as it is seen
pub same_stack : (inside h : StoredHeight) (file : ℕ) (stack seen : List NumberedFile) → inside ≡ h → file < length inside.stacks → seen ≡ get_or inside.stacks file seen → slice_get h.stacks file ≡ Some stack → seen ≡ stack
same_stack inside h file stack seen is lt at named = same_Some seen stack (ap Some at ∙ sym (slice_get-get_or inside.stacks file seen lt) ∙ ap (λ (x : StoredHeight). slice_get x.stacks file) is ∙ named)

-- the page that the stack has is that of the memory's layers
pub page_there : (files : Files) (inside h : StoredHeight) (file page : ℕ) (stack seen : List NumberedFile) (layers : List Layer) (into : Bytes) → inside ≡ h → file < length inside.stacks → seen ≡ get_or inside.stacks file seen
    → ((layers : List Layer) → AreLayers files seen layers → into ≡ page_from (reverse layers) page)
    → slice_get h.stacks file ≡ Some stack → AreLayers files stack layers → into ≡ page_from (reverse layers) page
page_there files inside h file page stack seen layers into is lt at reads named are =
    reads layers (subst (λ s. AreLayers files s layers) (sym (same_stack inside h file stack seen is lt at named)) are)
