-- Entries beside those with other values at the same keys, one by one.
use Rattle.std.proofs.Common.{◌≡◌, Bool, true, false, not, cond, List, [], ◌∷◌, ◌++◌, ◌&&◌, map, Some, refl, ◌∙◌, ap, sym, subst}
use Rattle.std.specs.FinMap.{find, put, is_sorted}
use Rattle.std.specs.FinMap.Entries.{below_all, by_order}
use Rattle.std.specs.Cmp.Lexicographic.{nat_list_cmp_total}
use Rattle.std.specs.Option.{option_map}
use Rattle.std.specs.Ordering.{is_lt, eq_by_cmp}
use Rattle.std.specs.declared.cmp.Ordering.{Ordering}
use Rattle.std.specs.declared.cmp.Ordering.TheVariants.{Less, Equal, Greater}
use Rattle.format_spec.specs.Bytes.{Bytes, bytes_cmp}
use Rattle.state_spec.proofs.Places.{parted, put_stands, put_absent, find_before, find_here, without_before, without_here, Below, Above, sorted_put}
use Rattle.state_spec.specs.State.{without}

module _ {X Y : Type 0} (f : X → Y) where
  abbrev pub images : List (Bytes × X) → List (Bytes × Y)
  images es = map (λ e. (e.0, f e.1)) es

  below_images : (key : Bytes) (es : List (Bytes × X)) → below_all bytes_cmp key (images es) ≡ below_all bytes_cmp key es
  below_images key [] = refl
  below_images key (e ∷ es) = ap (λ t. is_lt (bytes_cmp key e.0) && t) (below_images key es)

  pub sorted_images : (es : List (Bytes × X)) → is_sorted bytes_cmp (images es) ≡ is_sorted bytes_cmp es
  sorted_images [] = refl
  sorted_images (e ∷ es) = ap (λ t. t && is_sorted bytes_cmp (images es)) (below_images e.0 es) ∙ ap (λ t. below_all bytes_cmp e.0 es && t) (sorted_images es)

  pub put_images : (key : Bytes) (v : X) (es : List (Bytes × X)) → images (put bytes_cmp key v es) ≡ put bytes_cmp key (f v) (images es)
  put_images key v [] = refl
  put_images key v (e ∷ es) =
      elim (bytes_cmp key e.0) as (λ (r : Ordering). images (by_order r ((key, v) ∷ e ∷ es) ((e.0, v) ∷ es) (e ∷ put bytes_cmp key v es)) ≡ by_order r ((key, f v) ∷ (e.0, f e.1) ∷ images es) ((e.0, f v) ∷ images es) ((e.0, f e.1) ∷ put bytes_cmp key (f v) (images es)))
      [ Less ↦ refl | Equal ↦ refl | Greater ↦ ap (λ t. (e.0, f e.1) ∷ t) (put_images key v es) ]

  pub find_images : (key : Bytes) (es : List (Bytes × X)) → find bytes_cmp key (images es) ≡ option_map f (find bytes_cmp key es)
  find_images key [] = refl
  find_images key (e ∷ es) =
      elim (eq_by_cmp bytes_cmp key e.0) as (λ (b : Bool). cond b (Some (f e.1)) (find bytes_cmp key (images es)) ≡ option_map f (cond b (Some e.1) (find bytes_cmp key es)))
      [ true ↦ refl | false ↦ find_images key es ]

  pub without_images : (key : Bytes) (es : List (Bytes × X)) → images (without bytes_cmp key es) ≡ without bytes_cmp key (images es)
  without_images key [] = refl
  without_images key (e ∷ es) =
      elim (eq_by_cmp bytes_cmp key e.0) as (λ (b : Bool). images (cond (not b) (e ∷ without bytes_cmp key es) (without bytes_cmp key es)) ≡ cond (not b) ((e.0, f e.1) ∷ without bytes_cmp key (images es)) (without bytes_cmp key (images es)))
      [ true ↦ without_images key es | false ↦ ap (λ t. (e.0, f e.1) ∷ t) (without_images key es) ]

  -- the entries whose images are a front and a back
  pub record Cut (es : List (Bytes × X)) (before after : List (Bytes × Y)) : Type 0 where
    pub front : List (Bytes × X)
    pub back : List (Bytes × X)
    pub whole : es ≡ front ++ back
    pub front_is : images front ≡ before
    pub back_is : images back ≡ after

  pub cut : (es : List (Bytes × X)) (before after : List (Bytes × Y)) → images es ≡ before ++ after → Cut es before after
  cut es [] after h = record { front = []; back = es; whole = refl; front_is = refl; back_is = h }
  cut [] (b ∷ before) after h = absurd (cc h)
  cut (e ∷ es) (b ∷ before) after h =
      let rest : images es ≡ before ++ after = cc h in
      let same : (e.0, f e.1) ≡ b = cc h in
      let c = cut es before after rest in
      record {
        front = e ∷ c.front;
        back = c.back;
        whole = ap (λ t. e ∷ t) c.whole;
        front_is = ap (λ t. t ∷ images c.front) same ∙ ap (λ t. b ∷ t) c.front_is;
        back_is = c.back_is;
      }

  below_from_images : (key : Bytes) (es : List (Bytes × X)) → Below bytes_cmp nat_list_cmp_total key (images es) → Below bytes_cmp nat_list_cmp_total key es
  below_from_images key [] h = tt
  below_from_images key (e ∷ es) h = (h.0, below_from_images key es h.1)

  above_from_images : (key : Bytes) (es : List (Bytes × X)) → Above bytes_cmp nat_list_cmp_total key (images es) → Above bytes_cmp nat_list_cmp_total key es
  above_from_images key [] h = tt
  above_from_images key (e ∷ es) h = (h.0, above_from_images key es h.1)

  -- ---- an entry that comes, and one that changes

  -- where no entry has the key, a new one comes between a front and a back
  pub record Comes (key : Bytes) (es : List (Bytes × X)) (before after : List (Bytes × Y)) : Type 0 where
    pub front : List (Bytes × X)
    pub back : List (Bytes × X)
    pub whole : es ≡ front ++ back
    pub front_is : images front ≡ before
    pub back_is : images back ≡ after
    pub put_is : (v : X) → put bytes_cmp key v es ≡ front ++ (key, v) ∷ back

  pub comes : (key : Bytes) (v : X) (es : List (Bytes × X)) (before after : List (Bytes × Y)) → is_sorted bytes_cmp es ≡ true
      → images es ≡ before ++ after → put bytes_cmp key (f v) (images es) ≡ before ++ (key, f v) ∷ after → Comes key es before after
  comes key v es before after sorted split now =
      let c = cut es before after split in
      let new_sorted : is_sorted bytes_cmp (before ++ (key, f v) ∷ after) ≡ true =
      ap (is_sorted bytes_cmp) (sym now ∙ sym (put_images key v es)) ∙ sorted_images (put bytes_cmp key v es) ∙ sorted_put bytes_cmp nat_list_cmp_total key v es sorted in
      let parts = parted bytes_cmp nat_list_cmp_total before (key, f v) after new_sorted in
      let below = below_from_images key c.front (subst (Below bytes_cmp nat_list_cmp_total key) (sym c.front_is) parts.0) in
      let above = above_from_images key c.back (subst (Above bytes_cmp nat_list_cmp_total key) (sym c.back_is) parts.1) in
      record {
        front = c.front;
        back = c.back;
        whole = c.whole;
        front_is = c.front_is;
        back_is = c.back_is;
        put_is = λ w. ap (put bytes_cmp key w) c.whole ∙ put_absent bytes_cmp nat_list_cmp_total key c.front w c.back below above;
      }

  -- the entry of a key stands between a front and a back
  pub record Stays (key : Bytes) (y : Y) (es : List (Bytes × X)) (before after : List (Bytes × Y)) : Type 0 where
    pub front : List (Bytes × X)
    pub value : X
    pub back : List (Bytes × X)
    pub whole : es ≡ front ++ (key, value) ∷ back
    pub front_is : images front ≡ before
    pub value_is : f value ≡ y
    pub back_is : images back ≡ after
    pub found : find bytes_cmp key es ≡ Some value
    pub put_is : (v : X) → put bytes_cmp key v es ≡ front ++ (key, v) ∷ back
    pub without_is : without bytes_cmp key es ≡ front ++ back

  pub stays : (key : Bytes) (y : Y) (es : List (Bytes × X)) (before after : List (Bytes × Y)) → is_sorted bytes_cmp es ≡ true
      → images es ≡ before ++ (key, y) ∷ after → Stays key y es before after
  stays key y es before after sorted split =
      let c = cut es before ((key, y) ∷ after) split in
      go c.front c.back c.whole c.front_is c.back_is
    where
      go : (front back : List (Bytes × X)) → es ≡ front ++ back → images front ≡ before → images back ≡ (key, y) ∷ after → Stays key y es before after
      go front [] whole front_is back_is = absurd (cc back_is)
      go front (e ∷ back) whole front_is back_is =
          let pair : ◌≡◌ {A = Bytes × Y} (e.0, f e.1) (key, y) = cc back_is in
          let same : e.0 ≡ key = ap (λ (p : Bytes × Y). p.0) pair in
          let value : f e.1 ≡ y = ap (λ (p : Bytes × Y). p.1) pair in
          let rest : images back ≡ after = cc back_is in
          let here : (e.0, e.1) ≡ (key, e.1) = ap (λ (k : Bytes). (k, e.1)) same in
          let all : es ≡ front ++ (key, e.1) ∷ back = whole ∙ ap (λ t. front ++ t ∷ back) here in
          let es_sorted = ap (is_sorted bytes_cmp) (sym all) ∙ sorted in
          let parts = parted bytes_cmp nat_list_cmp_total front (key, e.1) back es_sorted in
          record {
            front = front;
            value = e.1;
            back = back;
            whole = all;
            front_is = front_is;
            value_is = value;
            back_is = rest;
            found = ap (find bytes_cmp key) all ∙ find_before bytes_cmp nat_list_cmp_total key front ((key, e.1) ∷ back) parts.0 ∙ find_here bytes_cmp nat_list_cmp_total key e.1 back;
            put_is = λ w. ap (put bytes_cmp key w) all ∙ put_stands bytes_cmp nat_list_cmp_total key front w e.1 back parts.0;
            without_is = ap (without bytes_cmp key) all ∙ without_before bytes_cmp nat_list_cmp_total key front ((key, e.1) ∷ back) parts.0 ∙ ap (λ t. front ++ t) (without_here bytes_cmp nat_list_cmp_total key e.1 back parts.1);
          }
