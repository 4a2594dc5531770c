-- What is seen of maps, by the entries of `Deltas` and the pages of a pool.
use Rattle.std.proofs.Common.{◌≡◌, ◌≢◌, ℕ, zero, suc, ◌==◌, Result, Ok, Err, IfOk, OnOk, OnErr, nat_lt, Bool, true, false, cond, List, [], ◌∷◌, map, get_or, Option, Some, None, IsSome, is_some, option_map, refl, sym, ◌∙◌, ap, subst}
use Rattle.byte_codec.specs.declared.error.NoMemory.{NoMemory}
use Rattle.page_pool.specs.Pool.{Pool, bytes_at}
use Rattle.page_delta.specs.declared.entry.Entry.{Entry}
use Rattle.page_delta.specs.Delta.{Pages, Deltas, map_of, pages_in, pages_of, find, read_of, reads}
use Rattle.page_delta.specs.Delta as delta
use Rattle.page_map.specs.Maps.{OwnPage, OwnPages, Maps, owns_at, owns_in, own_in, own_at, if_after}
use Rattle.page_map.specs.Changes.{is_live, SameMaps, ChangesOnly, Adds, Puts, Drops}
use Rattle.page_map.specs.Owned.{own_page, own_pages, some_own_pages, maps_in}

-- what is read of a page, as what is seen of it
abbrev as_own : Option (List ℕ × ℕ) → Option OwnPage
as_own None = None
as_own (Some r) = Some (record { bytes = r.0; stamp = r.1 })

find_own : (pool : Pool) (pages : Pages) (page : ℕ) → own_in page (own_pages pool pages) ≡ option_map (own_page pool) (find page pages)
find_own pool [] page = refl
find_own pool (first ∷ rest) page = go (find_own pool rest page) (page == first.0)
  where
    go : own_in page (own_pages pool rest) ≡ option_map (own_page pool) (find page rest) → (b : Bool) → cond b (Some (own_page pool first.1)) (own_in page (own_pages pool rest)) ≡ option_map (own_page pool) (cond b (Some first.1) (find page rest))
    go later true = refl
    go later false = later

at_map : (pool : Pool) (maps : List (Option Pages)) (id : ℕ) → get_or (map (some_own_pages pool) maps) id None ≡ some_own_pages pool (get_or maps id None)
at_map pool [] id = refl
at_map pool (m ∷ maps) zero = refl
at_map pool (m ∷ maps) (suc id) = at_map pool maps id

in_owned : (pool : Pool) (o : Option Pages) → owns_in (some_own_pages pool o) ≡ own_pages pool (pages_in o)
in_owned pool None = refl
in_owned pool (Some pages) = refl

pub seen : (pool : Pool) (deltas : Deltas) (id page : ℕ) → own_at (maps_in pool deltas) id page ≡ option_map (own_page pool) (find page (pages_of deltas id))
seen pool deltas id page =
    ap (λ (o : Option OwnPages). own_in page (owns_in o)) (at_map pool deltas.maps id)
    ∙ ap (own_in page) (in_owned pool (map_of deltas id))
    ∙ find_own pool (pages_of deltas id) page

own_read : (pool : Pool) (o : Option Entry) → option_map (own_page pool) o ≡ as_own (read_of pool o)
own_read pool None = refl
own_read pool (Some entry) = refl

seen_reads : (pool : Pool) (deltas : Deltas) (id page : ℕ) → own_at (maps_in pool deltas) id page ≡ as_own (reads pool deltas id page)
seen_reads pool deltas id page = seen pool deltas id page ∙ own_read pool (find page (pages_of deltas id))

live_owned : (pool : Pool) (o : Option Pages) → is_some (some_own_pages pool o) ≡ is_some o
live_owned pool None = refl
live_owned pool (Some pages) = refl

pub live_seen : (pool : Pool) (deltas : Deltas) (id : ℕ) → is_live (maps_in pool deltas) id ≡ is_some (map_of deltas id)
live_seen pool deltas id = ap (λ (o : Option OwnPages). is_some o) (at_map pool deltas.maps id) ∙ live_owned pool (map_of deltas id)

dead_seen : (pool : Pool) (deltas : Deltas) (id : ℕ) → map_of deltas id ≡ None → owns_at (maps_in pool deltas) id ≡ None
dead_seen pool deltas id dead = at_map pool deltas.maps id ∙ ap (some_own_pages pool) dead

pub live_delta : (pool : Pool) (deltas : Deltas) (maps : Maps) (id : ℕ) → maps_in pool deltas ≡ maps → IsSome (owns_at maps id) → delta.IsLive deltas id
live_delta pool deltas maps id is live = sym (live_seen pool deltas id) ∙ ap (λ (m : Maps). is_live m id) is ∙ live

pub page_some : (pool : Pool) (deltas : Deltas) (maps : Maps) (id page : ℕ) (entry : Entry) (bytes : List ℕ) → maps_in pool deltas ≡ maps → Some entry ≡ find page (pages_of deltas id) → bytes ≡ bytes_at pool entry.slot → Some bytes ≡ option_map (λ o. o.bytes) (own_at maps id page)
page_some pool deltas maps id page entry bytes is found read =
    ap (λ (b : List ℕ). Some b) read
    ∙ ap (λ (o : Option Entry). option_map (λ o. o.bytes) (option_map (own_page pool) o)) found
    ∙ ap (λ (o : Option OwnPage). option_map (λ o. o.bytes) o) (sym (seen pool deltas id page))
    ∙ ap (λ (m : Maps). option_map (λ o. o.bytes) (own_at m id page)) is

pub page_none : (pool : Pool) (deltas : Deltas) (maps : Maps) (id page : ℕ) → maps_in pool deltas ≡ maps → None ≡ find page (pages_of deltas id) → None ≡ option_map (λ o. o.bytes) (own_at maps id page)
page_none pool deltas maps id page is found =
    ap (λ (o : Option Entry). option_map (λ o. o.bytes) (option_map (own_page pool) o)) found
    ∙ ap (λ (o : Option OwnPage). option_map (λ o. o.bytes) o) (sym (seen pool deltas id page))
    ∙ ap (λ (m : Maps). option_map (λ o. o.bytes) (own_at m id page)) is

-- ---- what calls change

module _ (pool pool1 : Pool) (deltas deltas1 : Deltas) where
  same_page : (id page : ℕ) → reads pool1 deltas1 id page ≡ reads pool deltas id page → own_at (maps_in pool1 deltas1) id page ≡ own_at (maps_in pool deltas) id page
  same_page id page same = seen_reads pool1 deltas1 id page ∙ ap as_own same ∙ sym (seen_reads pool deltas id page)

  same_live : (id : ℕ) → map_of deltas1 id ≡ map_of deltas id → is_live (maps_in pool1 deltas1) id ≡ is_live (maps_in pool deltas) id
  same_live id same = live_seen pool1 deltas1 id ∙ ap (λ (o : Option Pages). is_some o) same ∙ sym (live_seen pool deltas id)

  changes_only : (id : ℕ) → ((other : ℕ) → other ≢ id → map_of deltas1 other ≡ map_of deltas other) → ((other place : ℕ) → other ≢ id → reads pool1 deltas1 other place ≡ reads pool deltas other place) → ChangesOnly (maps_in pool deltas) (maps_in pool1 deltas1) id
  changes_only id others elsewhere = record {
    live = λ other ne. same_live other (others other ne);
    own = λ other page ne. same_page other page (elsewhere other page ne);
  }

  pub puts : (id page : ℕ) (bytes : List ℕ) (stamp : ℕ) → delta.Sets pool pool1 deltas deltas1 id page bytes stamp → Puts (maps_in pool deltas) (maps_in pool1 deltas1) id page (record { bytes = bytes; stamp = stamp })
  puts id page bytes stamp sets = record {
    live = live_seen pool1 deltas1 id ∙ sets.live;
    here = seen_reads pool1 deltas1 id page ∙ ap as_own sets.written;
    rest = λ other ne. same_page id other (sets.rest other ne);
    others = changes_only id sets.others sets.elsewhere;
  }

  pub drops : (id : ℕ) → delta.Drops pool pool1 deltas deltas1 id → Drops (maps_in pool deltas) (maps_in pool1 deltas1) id
  drops id gone = record {
    dead = dead_seen pool1 deltas1 id gone.dead;
    others = changes_only id gone.others gone.elsewhere;
  }

  pub same_maps : delta.SameReads pool pool1 deltas deltas1 → SameMaps (maps_in pool deltas) (maps_in pool1 deltas1)
  same_maps same = record {
    live = λ id. same_live id (same.maps id);
    own = λ id page. same_page id page (same.elsewhere id page);
  }

  kept_page : (b : ℕ) (o : Option Entry) → read_of pool1 o ≡ read_of pool o → as_own (read_of pool1 (delta.if_after b o)) ≡ if_after b (option_map (own_page pool) o)
  kept_page b None same = refl
  kept_page b (Some entry) same = go (nat_lt b entry.stamp)
    where
      go : (t : Bool) → as_own (read_of pool1 (cond t (Some entry) None)) ≡ cond t (Some (own_page pool entry)) None
      go true = ap as_own same
      go false = refl

  pub keeps : (id kept b : ℕ) → delta.IsLive deltas id → delta.KeepsAfter pool pool1 deltas deltas1 id kept b → Adds (maps_in pool deltas) (maps_in pool1 deltas1) kept (λ page. if_after b (own_at (maps_in pool deltas) id page))
  keeps id kept b live is = record {
    fresh = dead_seen pool deltas kept is.fresh;
    live = live_seen pool1 deltas1 kept ∙ is.live;
    here = λ page.
        let o = find page (pages_of deltas id) in
        let same : read_of pool1 o ≡ read_of pool o =
        ap (λ (m : Option Pages). read_of pool1 (find page (pages_in m))) (sym (is.others id other)) ∙ is.elsewhere id page other in
        seen_reads pool1 deltas1 kept page
        ∙ ap (λ (e : Option Entry). as_own (read_of pool1 e)) (is.entries page)
        ∙ kept_page b o same
        ∙ ap (if_after b) (sym (seen pool deltas id page));
    others = changes_only kept is.others is.elsewhere;
  }
    where
      other : id ≢ kept
      other e = absurd (same_true_false (sym live ∙ ap (λ (n : ℕ). is_some (map_of deltas n)) e ∙ ap (λ (o : Option Pages). is_some o) is.fresh))
        where
          same_true_false : true ≡ false → ⊥
          same_true_false e = cc

-- no page, and the pool as it is
module _ (pool pool1 : Pool) (deltas deltas1 : Deltas) (same : pool1 ≡ pool) where
  pub adds : (id : ℕ) (pages : Pages) → delta.Adds deltas deltas1 id pages → Adds (maps_in pool deltas) (maps_in pool1 deltas1) id (λ page. option_map (own_page pool) (find page pages))
  adds id pages is = record {
    fresh = dead_seen pool deltas id is.fresh;
    live = live_seen pool1 deltas1 id ∙ ap (λ (o : Option Pages). is_some o) is.here;
    here = λ page.
        seen pool1 deltas1 id page
        ∙ ap (λ (p : Pool). option_map (own_page p) (find page (pages_of deltas1 id))) same
        ∙ ap (λ (o : Option Pages). option_map (own_page pool) (find page (pages_in o))) is.here;
    others = changes_only pool pool1 deltas deltas1 id is.others
        (λ other page ne. ap (λ (p : Pool). read_of p (find page (pages_of deltas1 other))) same ∙ ap (λ (o : Option Pages). read_of pool (find page (pages_in o))) (is.others other ne));
  }

  pub adds_fork : (id fork : ℕ) → delta.Adds deltas deltas1 fork (pages_of deltas id) → Adds (maps_in pool deltas) (maps_in pool1 deltas1) fork (own_at (maps_in pool deltas) id)
  adds_fork id fork added = let a = adds fork (pages_of deltas id) added in record {
    fresh = a.fresh;
    live = a.live;
    here = λ page. a.here page ∙ sym (seen pool deltas id page);
    others = a.others;
  }

-- ---- by the answer of a call

if_ok : {T E : Type 0} (P Q : T → Type 0) (r : Result T E) → ((x : T) → P x → Q x) → IfOk r P → IfOk r Q
if_ok P Q (Ok x) f h = f x h
if_ok P Q (Err e) f h = tt

on_ok : {T E : Type 0} (P Q : Type 0) (r : Result T E) → (P → Q) → OnOk r P → OnOk r Q
on_ok P Q (Ok x) f h = f h
on_ok P Q (Err e) f h = tt

on_err : {T E : Type 0} (P Q : Type 0) (r : Result T E) → (P → Q) → OnErr r P → OnErr r Q
on_err P Q (Ok x) f h = tt
on_err P Q (Err e) f h = f h

module _ (pool pool1 : Pool) (deltas deltas1 : Deltas) (maps : Maps) (is : maps_in pool deltas ≡ maps) where
  pub ok_empty : (r : Result ℕ NoMemory) → pool1 ≡ pool → IfOk r (λ id. delta.Adds deltas deltas1 id []) → IfOk r (λ id. Adds maps (maps_in pool1 deltas1) id (λ page. None))
  ok_empty r same h =
      subst (λ (m : Maps). IfOk r (λ id. Adds m (maps_in pool1 deltas1) id (λ page. None))) is
      (if_ok (λ id. delta.Adds deltas deltas1 id []) (λ id. Adds (maps_in pool deltas) (maps_in pool1 deltas1) id (λ page. None)) r (λ id a. adds pool pool1 deltas deltas1 same id [] a) h)

  pub ok_fork : (id : ℕ) (r : Result ℕ NoMemory) → pool1 ≡ pool → IfOk r (λ fork. delta.Adds deltas deltas1 fork (pages_of deltas id)) → IfOk r (λ fork. Adds maps (maps_in pool1 deltas1) fork (own_at maps id))
  ok_fork id r same h =
      subst (λ (m : Maps). IfOk r (λ fork. Adds m (maps_in pool1 deltas1) fork (own_at m id))) is
      (if_ok (λ fork. delta.Adds deltas deltas1 fork (pages_of deltas id)) (λ fork. Adds (maps_in pool deltas) (maps_in pool1 deltas1) fork (own_at (maps_in pool deltas) id)) r (λ fork a. adds_fork pool pool1 deltas deltas1 same id fork a) h)

  pub ok_drop : (id : ℕ) → delta.Drops pool pool1 deltas deltas1 id → Drops maps (maps_in pool1 deltas1) id
  ok_drop id h = subst (λ (m : Maps). Drops m (maps_in pool1 deltas1) id) is (drops pool pool1 deltas deltas1 id h)

  pub ok_set : (id page : ℕ) (bytes : List ℕ) (stamp : ℕ) (r : Result (Unit {0}) NoMemory) → OnOk r (delta.Sets pool pool1 deltas deltas1 id page bytes stamp) → OnOk r (Puts maps (maps_in pool1 deltas1) id page (record { bytes = bytes; stamp = stamp }))
  ok_set id page bytes stamp r h =
      subst (λ (m : Maps). OnOk r (Puts m (maps_in pool1 deltas1) id page (record { bytes = bytes; stamp = stamp }))) is
      (on_ok (delta.Sets pool pool1 deltas deltas1 id page bytes stamp) (Puts (maps_in pool deltas) (maps_in pool1 deltas1) id page (record { bytes = bytes; stamp = stamp })) r (puts pool pool1 deltas deltas1 id page bytes stamp) h)

  pub ok_keep : (id b : ℕ) (r : Result ℕ NoMemory) → IsSome (owns_at maps id) → IfOk r (λ kept. delta.KeepsAfter pool pool1 deltas deltas1 id kept b) → IfOk r (λ kept. Adds maps (maps_in pool1 deltas1) kept (λ page. if_after b (own_at maps id page)))
  ok_keep id b r live h =
      subst (λ (m : Maps). IfOk r (λ kept. Adds m (maps_in pool1 deltas1) kept (λ page. if_after b (own_at m id page)))) is
      (if_ok (λ kept. delta.KeepsAfter pool pool1 deltas deltas1 id kept b) (λ kept. Adds (maps_in pool deltas) (maps_in pool1 deltas1) kept (λ page. if_after b (own_at (maps_in pool deltas) id page))) r
      (λ kept k. keeps pool pool1 deltas deltas1 id kept b (live_delta pool deltas maps id is live) k) h)

  pub err_keep : {T : Type 0} (r : Result T NoMemory) → OnErr r (delta.SameReads pool pool1 deltas deltas1) → OnErr r (SameMaps maps (maps_in pool1 deltas1))
  err_keep r h =
      subst (λ (m : Maps). OnErr r (SameMaps m (maps_in pool1 deltas1))) is
      (on_err (delta.SameReads pool pool1 deltas deltas1) (SameMaps (maps_in pool deltas) (maps_in pool1 deltas1)) r (same_maps pool pool1 deltas deltas1) h)
