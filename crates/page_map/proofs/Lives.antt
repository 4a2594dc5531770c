-- What stays so of a live map.
use Rattle.std.proofs.Common.{◌≡◌, ◌≢◌, ℕ, ◌<◌, List, length, reverse, Option, Some, None, IsSome, refl, sym, ◌∙◌, ap, subst}
use Rattle.page_spec.specs.Layers.{Layer, page_from}
use Rattle.page_map.specs.Maps.{OwnPage, Maps, Map, owns_at, own_at}
use Rattle.page_map.specs.Reads.{page_of, bytes_with, bytes_of, IsLive}
use Rattle.page_map.specs.Changes.{SameMaps, KeepsOthers}
use Rattle.page_map.proofs.Whole.{same_pages}

pub moved : (old new : Maps) (m n : Map) → IsSome (owns_at new n.id) → ((page : ℕ) → own_at new n.id page ≡ own_at old m.id page) → n.stack ≡ m.stack → n.length ≡ m.length → IsLive old m → IsLive new n
moved old new m n live same stack length is = record {
  live = live;
  whole = λ page o own. is.whole page o (sym (same page) ∙ own);
  within = λ page o own. subst (λ (k : ℕ). page < k) (sym length) (is.within page o (sym (same page) ∙ own));
  layers_within = rw (stack, length) is.layers_within;
  few = rw length is.few;
}

pub same_bytes : (layers : List Layer) (f g : ℕ → Option OwnPage) (count : ℕ) → ((page : ℕ) → f page ≡ g page) → bytes_with layers f count ≡ bytes_with layers g count
unfolding bytes_with
same_bytes layers f g count same = same_pages (λ page. page_of layers (f page) page) (λ page. page_of layers (g page) page) count (λ page lt. ap (λ (o : Option OwnPage). page_of layers o page) (same page))

pub other_live : (old new : Maps) (id : ℕ) (m : Map) → KeepsOthers old new id → m.id ≢ id → IsLive old m → IsLive new m
other_live old new id m keeps ne is = moved old new m m (keeps.live m.id ne is.live) (λ page. keeps.own m.id page ne is.live) refl refl is

pub other_bytes : (old new : Maps) (id : ℕ) (m : Map) (layers : List Layer) → KeepsOthers old new id → m.id ≢ id → IsLive old m → bytes_of layers new m ≡ bytes_of layers old m
other_bytes old new id m layers keeps ne is = same_bytes layers (own_at new m.id) (own_at old m.id) m.length (λ page. keeps.own m.id page ne is.live)

pub refused_live : (old new : Maps) (m : Map) → SameMaps old new → IsLive old m → IsLive new m
refused_live old new m same is = moved old new m m (same.live m.id ∙ is.live) (λ page. same.own m.id page) refl refl is

pub refused_bytes : (old new : Maps) (m : Map) (layers : List Layer) → SameMaps old new → bytes_of layers new m ≡ bytes_of layers old m
refused_bytes old new m layers same = same_bytes layers (own_at new m.id) (own_at old m.id) m.length (λ page. same.own m.id page)

pub agree : (maps : Maps) (m : Map) (layers others : List Layer) → ((page : ℕ) → page < m.length → page_from (reverse layers) page ≡ page_from (reverse others) page) → bytes_of layers maps m ≡ bytes_of others maps m
unfolding bytes_with
agree maps m layers others same = same_pages (λ page. page_of layers (own_at maps m.id page) page) (λ page. page_of others (own_at maps m.id page) page) m.length (λ page lt. go page lt (own_at maps m.id page))
  where
    go : (page : ℕ) → page < m.length → (o : Option OwnPage) → page_of layers o page ≡ page_of others o page
    go page lt None = same page lt
    go page lt (Some o) = refl
