-- Files open at one list of heights only, up to births and rounds.
use Rattle.std.proofs.Common.{◌≡◌, ◌≢◌, ◌⊎◌, ℕ, ◌<◌, ◌≤◌, ◌||◌, Bool, true, false, List, [], ◌∷◌, map, zip, nat_eq, refl, sym, ap, ◌∙◌, subst, inl, inr, arith, ne_eqb, eq-eqb, is_lt, Less}
use Rattle.std.specs.List.{AllByRecursion, AllZip, list_any}
use Rattle.std.specs.List.Sorted.{IsStrictlySortedBy}
use Rattle.std.specs.Ordering.{nat_cmp}
use Rattle.std.proofs.lemmas.Bool.{cases_lt, cases_eq}
use Rattle.std.proofs.lemmas.Map.Keys.{sorted_from_strictly_increasing}
use Rattle.format_spec.specs.Bytes.{Bytes}
use Rattle.format_spec.proofs.Cuts.{cons_same, heads}
use Rattle.state_spec.specs.State.{SystemPart, state_from, without_history}
use Rattle.state_spec.specs.Files.{memories_in}
use Rattle.disk_model.specs.declared.name.Kind.{Kind}
use Rattle.disk_model.specs.declared.name.Kind.TheVariants as kind
use Rattle.disk_model.specs.declared.name.Name.TheVariants as name
use Rattle.disk_model.specs.Files.{Files, IsListing}
use Rattle.store_spec.specs.Mark.{Mark, MarkMemory, IsMarkText}
use Rattle.page_spec.specs.PageFile.{IsPageFile}
use Rattle.store_spec.specs.Image.{Published, IsLayerOf, AreLayersOf, memories_from, GivesHeight, GivesTrueHeight, heights_of, OpensAt, StandsFor, SamePublished}
use Rattle.page_spec.specs.Layers.{Layer}
use Rattle.page_spec.proofs.PageFiles.{page_file_once}
use Rattle.store_spec.proofs.Marks.{mark_once}
use Rattle.std.proofs.lemmas.Option.{same_Some}
use Rattle.format_spec.proofs.Lists.{below_is}

-- ---- ascending numbers, by which numbers are among them

among : ℕ → List ℕ → Bool
among n xs = list_any (nat_eq n) xs

AllAbove : ℕ → List ℕ → Type 0
AllAbove x xs = AllByRecursion (λ y. nat_cmp x y ≡ Less) xs

not_among : (n x : ℕ) (xs : List ℕ) → (n < x) ⊎ (n ≡ x) → AllAbove x xs → among n xs ≡ false
unfolding among AllAbove
not_among n x [] low h = refl
not_among n x (y ∷ ys) low h =
    let lt : x < y = below_is x y (ap is_lt h.0) in
    ap (λ (b : Bool). b || list_any (nat_eq n) ys) (ne_eqb n y (λ same. apart lt same low)) ∙ not_among n x ys low h.1
  where
    apart : x < y → n ≡ y → (n < x) ⊎ (n ≡ x) → ⊥
    apart lt same (inl p) = absurd (omega (arith, lt, same, p))
    apart lt same (inr p) = absurd (omega (arith, lt, same, p))

first_among : (x : ℕ) (xs : List ℕ) → among x (x ∷ xs) ≡ true
unfolding among
first_among x xs = ap (λ (b : Bool). b || list_any (nat_eq x) xs) (eq-eqb x x refl)

not_in_list : (n x : ℕ) (xs : List ℕ) → n < x → AllAbove x xs → among n (x ∷ xs) ≡ false
unfolding among
not_in_list n x xs lt h = ap (λ (b : Bool). b || list_any (nat_eq n) xs) (ne_eqb n x (λ same. absurd (omega (arith, same, lt)))) ∙ not_among n x xs (inl lt) h

behind_first : (n x : ℕ) (xs : List ℕ) → n ≢ x → among n (x ∷ xs) ≡ among n xs
unfolding among
behind_first n x xs ne = ap (λ (b : Bool). b || list_any (nat_eq n) xs) (ne_eqb n x ne)

tails_agree : (x : ℕ) (xs ys : List ℕ) → AllAbove x xs → AllAbove x ys → ((n : ℕ) → among n (x ∷ xs) ≡ among n (x ∷ ys)) → (n : ℕ) → among n xs ≡ among n ys
tails_agree x xs ys p q h n = by (cases_eq n x)
  where
    by : (n ≡ x) ⊎ (n ≡ x → ⊥) → among n xs ≡ among n ys
    by (inl same) = not_among n x xs (inr same) p ∙ sym (not_among n x ys (inr same) q)
    by (inr ne) = sym (behind_first n x xs ne) ∙ h n ∙ behind_first n x ys ne

same_numbers : (xs ys : List ℕ) → IsStrictlySortedBy nat_cmp xs → IsStrictlySortedBy nat_cmp ys → ((n : ℕ) → among n xs ≡ among n ys) → xs ≡ ys
unfolding IsStrictlySortedBy among AllAbove
same_numbers [] [] p q h = refl
same_numbers [] (y ∷ ys) p q h = absurd (let f = sym (h y) in let g = first_among y ys in cc)
same_numbers (x ∷ xs) [] p q h = absurd (let f = h x in let g = first_among x xs in cc)
same_numbers (x ∷ xs) (y ∷ ys) p q h = by (cases_lt x y) (cases_lt y x) (λ e. same_numbers xs ys p.1 q.1 (λ n. tails_agree x xs ys p.0 (subst (λ (z : ℕ). AllAbove z ys) (sym e) q.0) (λ k. h k ∙ ap (λ (z : ℕ). among k (z ∷ ys)) (sym e)) n))
  where
    by : (x < y) ⊎ (y ≤ x) → (y < x) ⊎ (x ≤ y) → (x ≡ y → xs ≡ ys) → x ∷ xs ≡ y ∷ ys
    by (inl lt) b more = absurd (let f = h x in let g = first_among x xs in let k = not_in_list x y ys lt q.0 in cc)
    by (inr le) (inl lt) more = absurd (let f = h y in let g = first_among y ys in let k = not_in_list y x xs lt p.0 in cc)
    by (inr le) (inr ge) more = let e : x ≡ y = omega (arith, le, ge) in cons_same x y xs ys e (more e)

pub listing_once : (kind : Kind) (files : Files) (xs ys : List ℕ) → IsListing kind files xs → IsListing kind files ys → xs ≡ ys
unfolding among
listing_once kind files xs ys p q = same_numbers xs ys (sorted_from_strictly_increasing xs p.ascending) (sorted_from_strictly_increasing ys q.ascending) (λ n. p.each n ∙ sym (q.each n))

-- ---- layers

same_layer : (l k : Layer) → l.index ≡ k.index → l.pages ≡ k.pages → l ≡ k
same_layer l k p q = λ i. record { index = p i; pages = q i }

module _ (files : Files) where
  layer_once : (n number : ℕ) (l k : Layer) → IsLayerOf files n number l → IsLayerOf files n number k → l ≡ k
  layer_once n number l k p q =
      let text : p.text ≡ q.text = same_Some p.text q.text (sym p.there ∙ q.there) in
      let same = page_file_once q.text l.index k.index l.pages k.pages (subst (λ (s : Bytes). IsPageFile s l.index l.pages) text p.good) q.good in
      same_layer l k same.0 same.1

  layers_once : (n : ℕ) (numbers : List ℕ) (ls ks : List Layer) → AllZip (IsLayerOf files n) numbers ls → AllZip (IsLayerOf files n) numbers ks → ls ≡ ks
  layers_once n [] [] [] p q = refl
  layers_once n [] [] (k ∷ ks) p q = absurd q
  layers_once n [] (l ∷ ls) ks p q = absurd p
  layers_once n (m ∷ ms) [] ks p q = absurd p
  layers_once n (m ∷ ms) (l ∷ ls) [] p q = absurd q
  layers_once n (m ∷ ms) (l ∷ ls) (k ∷ ks) p q = λ i. layer_once n m l k p.0 q.0 i ∷ layers_once n ms ls ks p.1 q.1 i

  all_layers_once : (ms : List (MarkMemory × (Bytes × ℕ))) (ls ks : List (List Layer)) → AllZip (AreLayersOf files) ms ls → AllZip (AreLayersOf files) ms ks → ls ≡ ks
  all_layers_once [] [] [] p q = refl
  all_layers_once [] [] (k ∷ ks) p q = absurd q
  all_layers_once [] (l ∷ ls) ks p q = absurd p
  all_layers_once (m ∷ ms) [] ks p q = absurd p
  all_layers_once (m ∷ ms) (l ∷ ls) [] p q = absurd q
  all_layers_once (m ∷ ms) (l ∷ ls) (k ∷ ks) p q = λ i. layers_once m.1.1 m.0.layers l k p.0 q.0 i ∷ all_layers_once ms ls ks p.1 q.1 i

  -- ---- heights

  height_once : (p q : Published) → p.height ≡ q.height → GivesHeight files p → GivesHeight files q → SamePublished p q
  height_once p q same g h =
      let text : g.text ≡ h.text = same_Some g.text h.text (sym g.there ∙ ap (λ (n : ℕ). files (name.Mark n)) same ∙ h.there) in
      let mark = mark_once p.height q.height h.text g.mark h.mark g.system h.system (subst (λ (s : Bytes). IsMarkText p.height s g.mark g.system) text g.spelled) h.spelled in
      let layers : g.layers ≡ h.layers =
      all_layers_once (zip h.mark.memories (memories_in h.system)) g.layers h.layers
      (subst (λ (s : SystemPart). AllZip (AreLayersOf files) (zip h.mark.memories (memories_in s)) g.layers) mark.1 (subst (λ (m : Mark). AllZip (AreLayersOf files) (zip m.memories (memories_in g.system)) g.layers) mark.0 g.layers_there))
      h.layers_there in
      let state : state_from g.mark.version p.height g.system (memories_from g.system g.layers) ≡ state_from h.mark.version q.height h.system (memories_from h.system h.layers) =
      λ i. state_from (mark.0 i).version (same i) (mark.1 i) (memories_from (mark.1 i) (layers i)) in
      record {
        height = same;
        state = g.same_state ∙ ap without_history state ∙ sym h.same_state;
        layers = g.same_layers ∙ ap (map (map (λ l. l.index.numbers))) layers ∙ sym h.same_layers;
      }

  heights_once : (ps qs : List Published) → heights_of ps ≡ heights_of qs → AllByRecursion (GivesHeight files) ps → AllByRecursion (GivesHeight files) qs → AllZip SamePublished ps qs
  heights_once [] [] e p q = tt
  heights_once [] (r ∷ qs) e p q = absurd cc
  heights_once (r ∷ ps) [] e p q = absurd cc
  heights_once (r ∷ ps) (s ∷ qs) e p q = let h = heads r.height s.height (heights_of ps) (heights_of qs) e in (height_once r s h.0 p.0 q.0, heights_once ps qs h.1 p.1 q.1)

  pub opens_once : (ps qs : List Published) → OpensAt files ps → OpensAt files qs → AllZip SamePublished ps qs
  opens_once ps qs p q = heights_once ps qs (listing_once kind.Mark files (heights_of ps) (heights_of qs) p.marks q.marks) p.each q.each

  true_heights : (ps : List Published) → AllByRecursion (GivesTrueHeight files) ps → AllByRecursion (GivesHeight files) ps
  true_heights [] h = tt
  true_heights (p ∷ ps) h = (h.0.0, true_heights ps h.1)

  pub stands_open : (ps : List Published) → StandsFor files ps → OpensAt files ps
  stands_open ps p = record { marks = p.marks; few = p.few; versions = p.versions; each = true_heights ps p.each }
