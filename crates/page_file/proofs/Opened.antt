-- What is read of a page file.
use Rattle.std.proofs.Common.{◌≡◌, ℕ, ◌+◌, ◌*◌, ◌<◌, ◌≤◌, ◌++◌, length, take, drop, true, Option, Some, None, Result, Ok, Err, IfOk, IfSome, IsSomeAnd, append_assoc, refl, sym, ◌∙◌, ap, subst, arith, length-append}
use Rattle.std.specs.Option.{option_map}
use Rattle.std.proofs.lemmas.List.{drop-drop, drop_at, take_at, take-append-drop, length-take, length-drop}
use Rattle.std.proofs.lemmas.Bool.Decides.{nat_tests}
use Rattle.format_spec.specs.Bytes.{Bytes, page_at}
use Rattle.page_spec.specs.PageFile.{PageIndex, IsPageFile, index_text, index_length, runs_of, ranges_text}
use Rattle.disk_model.specs.declared.disk.DiskError.{DiskError}
use Rattle.disk_model.specs.declared.name.Name.TheVariants.{Page}
use Rattle.disk_model.specs.Files.{Files}
use Rattle.disk_model.specs.View.{DiskView}
use Rattle.disk_model.specs.OnlyReads.{OnlyReads}
use Rattle.page_file.specs.declared.format.Header.{Header}
use Rattle.page_file.specs.Index.{IsHeader, HasRanges, ReadsHeader, ReadsIndex, header_text, are_counts}
use Rattle.page_file.specs.Files.{NumberedFile, HasPages, IsAsKnown, HasHeader, FindsHeader, FindsIndex}
use Rattle.page_file.proofs.Kept.{pages_fit, some_run}
use Rattle.page_file.proofs.Texts.{header_reads, index_is, length-header_text}
use Rattle.page_spec.proofs.PageFiles.{length-index_text, length-ranges_text}
use Rattle.format_spec.specs.declared.limits.TheConstants.{MAX_MEMORY_PAGES}

-- ---- pages

pub pages_are_there : (files : Files) (file : NumberedFile) (n place offset size : ℕ) → IsAsKnown files file → n ≡ file.number → offset ≡ index_length file.index + 4096 * place → 4096 * place + size ≤ 4096 * length file.index.numbers
    → IsSomeAnd (files (Page n)) (λ text. offset + size ≤ length text)
pages_are_there files file n place offset size kept is at below =
    let pages = kept.0 in let has = kept.1 in
    subst (λ o. IsSomeAnd o (λ text. offset + size ≤ length text)) (sym (ap (λ n. files (Page n)) is ∙ has.there))
    (omega (arith, at, below, has.good.whole, ap length has.good.spelled, length-append (index_text file.index) pages, length-index_text file.index))

pages_of_text : (text pages : Bytes) (i : PageIndex) (place offset size : ℕ) → text ≡ index_text i ++ pages → offset ≡ index_length i + 4096 * place → take size (drop offset text) ≡ take size (drop (place * 4096) pages)
pages_of_text text pages i place offset size is at =
    let from : 4096 * place ≡ place * 4096 = omega arith in
    ap (take size) (ap (λ n. drop n text) at ∙ sym (drop-drop (4096 * place) (index_length i) text) ∙ ap (λ l. drop (4096 * place) (drop (index_length i) l)) is ∙ ap (drop (4096 * place)) (drop_at (index_text i) pages (index_length i) (length-index_text i)))
    ∙ ap (λ n. take size (drop n pages)) from

pub same_text : (files : Files) (n m : ℕ) (a b : Bytes) → n ≡ m → files (Page n) ≡ Some a → files (Page m) ≡ Some b → a ≡ b
same_text files n m a b is one other = let e : Some a ≡ Some b = sym one ∙ ap (λ k. files (Page k)) is ∙ other in cc

pub pages_read : (files : Files) (n place offset size : ℕ) (i : PageIndex) (pages into : Bytes) (file : NumberedFile) → HasPages files file.number i pages → n ≡ file.number → offset ≡ index_length i + 4096 * place
    → IsSomeAnd (files (Page n)) (λ text. into ≡ take size (drop offset text)) → into ≡ take size (drop (place * 4096) pages)
pages_read files n place offset size i pages into file has is at read =
    let here = subst (λ o. IsSomeAnd o (λ text. into ≡ take size (drop offset text))) (ap (λ n. files (Page n)) is ∙ has.there) read in
    here ∙ pages_of_text has.text pages i place offset size has.good.spelled at

-- ---- the header

yes : (m r p : ℕ) → 1 ≤ r → r ≤ p → p ≤ m → m ≤ MAX_MEMORY_PAGES → are_counts m r p ≡ true
yes m r p a b c d = grind (arith, nat_tests)

pub page_has_header : (text pages : Bytes) (i : PageIndex) → IsPageFile text i pages → IsHeader i.memory (length (runs_of i.numbers)) (length i.numbers) (take 32 text) (length text)
page_has_header text pages i is =
    let fit = pages_fit i is.good in
    let header = header_text i.memory (length (runs_of i.numbers)) (length i.numbers) in
    let ranges = ranges_text 0 (runs_of i.numbers) in
    let whole : text ≡ header ++ (ranges ++ pages) = is.spelled ∙ ap (λ (l : Bytes). l ++ pages) (index_is i) ∙ append_assoc header ranges pages in
    record {
      possible = yes i.memory (length (runs_of i.numbers)) (length i.numbers) (some_run i is.good) fit.0 fit.1 is.good.memory_fits;
      text = ap (take 32) whole ∙ take_at header (ranges ++ pages) 32 (length-header_text i.memory (length (runs_of i.numbers)) (length i.numbers));
      whole = omega (arith, ap length is.spelled, is.whole, length-append (index_text i) pages, length-index_text i);
    }

pub header_of : (files : Files) (n size : ℕ) (bytes : Bytes) (o : Option Header) → Some size ≡ option_map length (files (Page n)) → IsSomeAnd (files (Page n)) (λ text. bytes ≡ take 32 (drop 0 text)) → ReadsHeader bytes size (Ok o) → FindsHeader files n (Ok o)
header_of files n size bytes o sized read reads = by_file (files (Page n)) refl sized read
  where
    by_file : (file : Option Bytes) → files (Page n) ≡ file → Some size ≡ option_map length file → IsSomeAnd file (λ text. bytes ≡ take 32 (drop 0 text)) → FindsHeader files n (Ok o)
    by_file None there sized read = absurd read
    by_file (Some text) there sized read = by_answer o reads
      where
        long : size ≡ length text
        long = cc

        by_answer : (o : Option Header) → ReadsHeader bytes size (Ok o) → FindsHeader files n (Ok o)
        by_answer (Some h) reads = record {
          text = text;
          there = there;
          header = subst (λ b. IsHeader h.memory h.ranges h.pages b (length text)) read (subst (IsHeader h.memory h.ranges h.pages bytes) long reads);
        }
        by_answer None reads = λ i pages has. let same : has.text ≡ text = same_text files n n has.text text refl has.there there in
            let header = page_has_header has.text pages i has.good in
            reads i.memory (length (runs_of i.numbers)) (length i.numbers) (subst (λ b. IsHeader i.memory (length (runs_of i.numbers)) (length i.numbers) b size) (ap (take 32) same ∙ sym read)
            (subst (IsHeader i.memory (length (runs_of i.numbers)) (length i.numbers) (take 32 has.text)) (ap length same ∙ sym long) header))

pub header_same : (m r p k q s : ℕ) (bytes : Bytes) (a b : ℕ) → IsHeader m r p bytes a → IsHeader k q s bytes b → (m ≡ k) × (r ≡ q) × (p ≡ s)
header_same m r p k q s bytes a b one other =
    let of_one = header_reads m r p bytes a one in
    let of_other = header_reads k q s bytes b other in
    (sym of_one.0 ∙ of_other.0, sym of_one.1 ∙ of_other.1, sym of_one.2 ∙ of_other.2)

-- ---- the ranges behind it

pub ranges_at : (m r p : ℕ) (text bytes : Bytes) (i : PageIndex) (pages : Bytes) → IsHeader m r p (take 32 text) (length text) → IsPageFile text i pages → bytes ≡ take (12 * r) (drop 32 text) → HasRanges m p bytes i
ranges_at m r p text bytes i pages header is read =
    let same = header_same (i.memory) (length (runs_of i.numbers)) (length i.numbers) m r p (take 32 text) (length text) (length text) (page_has_header text pages i is) header in
    let front = header_text i.memory (length (runs_of i.numbers)) (length i.numbers) in
    let ranges = ranges_text 0 (runs_of i.numbers) in
    let whole : text ≡ front ++ (ranges ++ pages) = is.spelled ∙ ap (λ (l : Bytes). l ++ pages) (index_is i) ∙ append_assoc front ranges pages in
    record {
      good = is.good;
      same_memory = same.0;
      count = same.2;
      text = read ∙ ap (take (12 * r)) (ap (drop 32) whole ∙ drop_at front (ranges ++ pages) 32 (length-header_text i.memory (length (runs_of i.numbers)) (length i.numbers)))
          ∙ take_at ranges pages (12 * r) (length-ranges_text 0 (runs_of i.numbers) ∙ ap (λ k. 12 * k) same.1);
    }

runs_counted : (m r p : ℕ) (text bytes : Bytes) (i : PageIndex) → IsHeader m r p (take 32 text) (length text) → bytes ≡ take (12 * r) (drop 32 text) → HasRanges m p bytes i → length (runs_of i.numbers) ≡ r
runs_counted m r p text bytes i header read has =
    omega (arith, ap length (sym has.text ∙ read), length-ranges_text 0 (runs_of i.numbers), length-take (12 * r) (drop 32 text), length-drop 32 text, header.whole)

pub page_file_of : (m r p : ℕ) (text bytes : Bytes) (i : PageIndex) → IsHeader m r p (take 32 text) (length text) → bytes ≡ take (12 * r) (drop 32 text) → HasRanges m p bytes i → IsPageFile text i (drop (12 * r) (drop 32 text))
page_file_of m r p text bytes i header read has =
    let runs = runs_counted m r p text bytes i header read has in
    let front = header_text i.memory (length (runs_of i.numbers)) (length i.numbers) in
    let is_front : take 32 text ≡ front = header.text ∙ (λ j. header_text (sym has.same_memory j) (sym runs j) (sym has.count j)) in
    let ranges = ranges_text 0 (runs_of i.numbers) in
    let rest = drop (12 * r) (drop 32 text) in
    record {
      good = has.good;
      spelled = sym (take-append-drop 32 text) ∙ (λ j. is_front j ++ (sym (take-append-drop (12 * r) (drop 32 text)) ∙ ap (λ (l : Bytes). l ++ rest) (sym read ∙ has.text)) j)
          ∙ sym (append_assoc front ranges rest) ∙ ap (λ (l : Bytes). l ++ rest) (sym (index_is i));
      whole = omega (arith, length-drop (12 * r) (drop 32 text), length-drop 32 text, header.whole, has.count);
    }

pub index_of_file : (files : Files) (n : ℕ) (h : Header) (bytes : Bytes) (o : Option PageIndex) → HasHeader files n h → IsSomeAnd (files (Page n)) (λ text. bytes ≡ take (12 * h.ranges) (drop 32 text)) → ReadsIndex h.memory h.pages bytes (Ok o) → FindsIndex files n (Ok o)
index_of_file files n h bytes o has read reads = by_answer o reads (subst (λ f. IsSomeAnd f (λ text. bytes ≡ take (12 * h.ranges) (drop 32 text))) has.there read)
  where
    by_answer : (o : Option PageIndex) → ReadsIndex h.memory h.pages bytes (Ok o) → bytes ≡ take (12 * h.ranges) (drop 32 has.text) → FindsIndex files n (Ok o)
    by_answer (Some i) reads read = (
      drop (12 * h.ranges) (drop 32 has.text),
      record {
        text = has.text;
        there = has.there;
        good = page_file_of h.memory h.ranges h.pages has.text bytes i has.header read reads;
      },
    )
    by_answer None reads read = λ i pages other. let same : other.text ≡ has.text = same_text files n n other.text has.text refl other.there has.there in
        reads i (ranges_at h.memory h.ranges h.pages has.text bytes i pages has.header (subst (λ text. IsPageFile text i pages) same other.good) read)

pub index_counted : (files : Files) (n : ℕ) (h : Header) (bytes : Bytes) (o : Option PageIndex) → HasHeader files n h → IsSomeAnd (files (Page n)) (λ text. bytes ≡ take (12 * h.ranges) (drop 32 text)) → ReadsIndex h.memory h.pages bytes (Ok o)
    → IfSome o (λ i. index_length i ≡ 32 + 12 * h.ranges)
index_counted files n h bytes None has read reads = tt
index_counted files n h bytes (Some i) has read reads =
    let here = subst (λ f. IsSomeAnd f (λ text. bytes ≡ take (12 * h.ranges) (drop 32 text))) has.there read in
    ap (λ k. 32 + 12 * k) (runs_counted h.memory h.ranges h.pages has.text bytes i has.header here reads)

-- a buffer that a read has filled
pub filled : (into now bytes rest : Bytes) (n size : ℕ) (file : Option Bytes) → length now ≡ n → n ≡ size → bytes ≡ take n (now ++ rest) → IsSomeAnd file (λ text. now ≡ take (length into) (drop 32 text)) → length into ≡ size → IsSomeAnd file (λ text. bytes ≡ take size (drop 32 text))
filled into now bytes rest n size None count whole is read same = read
filled into now bytes rest n size (Some text) count whole is read same = is ∙ take_at now rest n count ∙ read ∙ ap (λ k. take k (drop 32 text)) same

-- the bytes read for an index
pub looked_for : (n : ℕ) (r : Result (Option PageIndex) DiskError) (old new : DiskView) → IfOk r (λ found. IfSome found (λ i. index_length i ≡ 32 + 12 * n)) → OnlyReads (32 + 12 * n) old new → IfOk r (λ found. IfSome found (λ i. OnlyReads (index_length i) old new))
looked_for n (Err e) old new long reads_only = tt
looked_for n (Ok None) old new long reads_only = tt
looked_for n (Ok (Some i)) old new long reads_only = subst (λ k. OnlyReads k old new) (sym long) reads_only
