-- What texts of bytes spell is of bytes: the system text of a mark, the pages of layers.
use Rattle.std.proofs.Common.{◌≡◌, ℕ, ◌*◌, ◌==◌, List, [], ◌∷◌, ◌++◌, length, reverse, drop, position, codes, Option, Some, None, option_map, subst}
use Rattle.std.specs.List.{AllByRecursion, flat_map, range_with_len}
use Rattle.sha2.specs.Sha256.{sha256}
use Rattle.format_spec.specs.Bytes.{Bytes, IsBytes, be32, be64, page_at}
use Rattle.format_spec.specs.declared.limits.TheConstants.{PAGE_SIZE}
use Rattle.format_spec.proofs.ByteStrings.{cut_bytes, drop_bytes, flat_bytes, take_bytes}
use Rattle.format_spec.proofs.Lists.{all_reversed, every}
use Rattle.state_spec.proofs.Memories.{zeros_bytes}
use Rattle.page_spec.specs.Layers.{Layer, memory_from, or_else, page_from}
use Rattle.page_spec.specs.PageFile.{PageIndex, index_text}
use Rattle.store_spec.specs.Mark.{Mark, hashes_text, mark_body, mark_memory_text, mark_text}

-- ---- a mark

pub mark_bytes : (m : Mark) → IsBytes (mark_text m) → IsBytes m.system
unfolding mark_text
mark_bytes m h =
    let x : Bytes = codes "ICMK" ++ be32 m.version ++ be64 m.height ++ be32 (length m.system) in
    let y : Bytes = x ++ m.system ++ flat_map (mark_memory_text m.version) m.memories in
    let a = cut_bytes (mark_body m) (sha256 (mark_body m)) h in
    let b = cut_bytes (y ++ hashes_text m.system_sums) m.root a.0 in
    let d = cut_bytes y (hashes_text m.system_sums) b.0 in
    let e = cut_bytes (x ++ m.system) (flat_map (mark_memory_text m.version) m.memories) d.0 in
    (cut_bytes x m.system e.0).1

-- ---- pages

pub file_bytes : (text : Bytes) (i : PageIndex) (pages : Bytes) → text ≡ index_text i ++ pages → IsBytes text → IsBytes pages
file_bytes text i pages spelled h = (cut_bytes (index_text i) pages (subst IsBytes spelled h)).1

page_bytes : (ls : List Layer) (page : ℕ) → AllByRecursion (λ l. IsBytes l.pages) ls → IsBytes (page_from ls page)
page_bytes [] page all = zeros_bytes PAGE_SIZE
page_bytes (l ∷ ls) page all = by (position (λ p. p == page) l.index.numbers) (page_bytes ls page all.1)
  where
    by : (o : Option ℕ) → IsBytes (page_from ls page) → IsBytes (or_else (option_map (page_at l.pages) o) (page_from ls page))
    by None rest = rest
    by (Some i) rest = take_bytes PAGE_SIZE (drop (i * PAGE_SIZE) l.pages) (drop_bytes (i * PAGE_SIZE) l.pages all.0)

pub memory_bytes : (n : ℕ) (ls : List Layer) → AllByRecursion (λ l. IsBytes l.pages) ls → IsBytes (memory_from n ls)
unfolding memory_from
memory_bytes n ls all =
    let newest = all_reversed (λ (l : Layer). IsBytes l.pages) ls all in
    flat_bytes (page_from (reverse ls)) (range_with_len 0 n) (every (λ page. IsBytes (page_from (reverse ls) page)) (λ page. page_bytes (reverse ls) page newest) (range_with_len 0 n))
