use Rattle.std.proofs.Common.{◌≡◌, ℕ, ◌-◌, ◌<◌, ◌≤◌, ◌&&◌, get_or, take, drop, Bool, true, false, length, List, [], ◌∷◌, refl, sym, ◌∙◌, ap, subst, ◌⊎◌, inl, inr, arith, Option, Some, None, option_map, map, codes, Bor, if◌then◌else◌}
use Rattle.std.proofs.lemmas.Bool.{and_parts}
use Rattle.std.proofs.lemmas.List.{take_rest}
use Rattle.std.proofs.lemmas.Slice.Eq.{bytes_eq-Decides}
use Rattle.std.specs.Cmp.Derive.{both_true}
use Rattle.dip_orders_lines.specs.Tokens.{minus}
use Rattle.dip_orders_lines.specs.Forms.{spot_text, is_spot, kind_text, form_tokens, is_form, small}
use Rattle.dip_orders_lines.specs.Reading.{is_any_case, spot_at, mention_at, closed_at, three_at, four_at, via_at, five_at, six_at, aid_at, seven_at, done_at, form_at}
use Rattle.dip_names.specs.Options.{◌>>=◌}
use Rattle.dip_names.specs.declared.names.Kind.{Kind}
use Rattle.dip_names.specs.declared.names.Kind.TheVariants.{Army, Fleet}
use Rattle.dip_orders_lines.specs.declared.forms.Spot.{Spot}
use Rattle.dip_orders_lines.specs.declared.forms.Mention.{Mention}
use Rattle.dip_orders_lines.specs.declared.forms.Form.{Form}
use Rattle.dip_orders_lines.specs.declared.forms.Form.TheVariants.{Hold, Move, SupportHold, SupportMove, Convoy, Retreat, Disband, Build, Remove}
use Rattle.dip_orders_lines.proofs.PartLaws.{one_spot, two_spots, three_spots, IsMention, bound, spot_takes, mention_takes, spot_form, mention_form, small_twice, spot_same, mention_same}
use Rattle.dip_orders_lines.proofs.SpellingLaws.{mapped_some}

-- the tokens are those of the form, whatever their case, and its places are words of places
abbrev pub IsForm : List (List ℕ) → Form → Type 0
IsForm ts d = (map small ts ≡ form_tokens d) × (is_form d ≡ true)

-- which way a test went
parted : {A : Type 0} (b : Bool) (x y : Option A) (z : A) → (if b then x else y) ≡ Some z → ((b ≡ true) × (x ≡ Some z)) ⊎ (y ≡ Some z)
parted true x y z h = inl (refl, h)
parted false x y z h = inr h

-- what a test let through
passed : {A : Type 0} (b : Bool) (x y : A) → (if b then Some x else None) ≡ Some y → (b ≡ true) × (Some x ≡ Some y)
passed true x y h = (refl, h)
passed false x y h = absurd (cc)

word_is : (t word : List ℕ) → is_any_case t word ≡ true → small t ≡ word
word_is t word h = (bytes_eq-Decides (small t) word).0 h

beside : {x y : List ℕ} {xs ys : List (List ℕ)} → x ≡ y → xs ≡ ys → x ∷ xs ≡ y ∷ ys
beside e f = cc

taken : (ts : List (List ℕ)) (c d : Form) → Some c ≡ Some d → map small ts ≡ form_tokens c → is_form c ≡ true → IsForm ts d
taken ts c d is form places = let e : c ≡ d = cc in subst (λ (x : Form). IsForm ts x) e (form, places)

-- a unit in front
front : (kind at : List ℕ) {xs ys : List (List ℕ)} (u : Mention) → IsMention kind at u → xs ≡ ys → small kind ∷ small at ∷ xs ≡ kind_text u.kind ∷ spot_text u.at ∷ ys
front kind at u m e = beside m.0 (beside m.1.0 e)

closed_takes : (kind at last : List ℕ) (d : Form) → closed_at kind at last ≡ Some d → IsForm (kind ∷ at ∷ last ∷ []) d
closed_takes kind at last d h =
    let (u, eu, rest) = bound (mention_at kind at) (λ x. if is_any_case last (codes "h") then Some (Hold x) else if is_any_case last (codes "d") then Some (Disband x) else None) d h in
    let m = mention_takes kind at u eu in
    elim (parted (is_any_case last (codes "h")) (Some (Hold u)) (if is_any_case last (codes "d") then Some (Disband u) else None) d rest) [
      | inl p ↦ taken (kind ∷ at ∷ last ∷ []) (Hold u) d p.1 (front kind at u m (beside (word_is last (codes "h") p.0) refl)) (both_true m.1.1 refl)
      | inr more ↦
          let p = passed (is_any_case last (codes "d")) (Disband u) d more in
          taken (kind ∷ at ∷ last ∷ []) (Disband u) d p.1 (front kind at u m (beside (word_is last (codes "d") p.0) refl)) (both_true m.1.1 refl)
    ]

build_takes : (a b c : List ℕ) (d : Form) → is_any_case a (codes "build") ≡ true → option_map (λ u. Build u) (mention_at b c) ≡ Some d → IsForm (a ∷ b ∷ c ∷ []) d
build_takes a b c d word h =
    let (u, eu, is) = mapped_some (λ u. Build u) (mention_at b c) d h in
    let m = mention_takes b c u eu in
    taken (a ∷ b ∷ c ∷ []) (Build u) d (ap (λ x. Some x) is) (beside (word_is a (codes "build") word) (front b c u m refl)) (both_true m.1.1 refl)

remove_takes : (a b c : List ℕ) (d : Form) → is_any_case a (codes "remove") ≡ true → option_map (λ u. Remove u) (mention_at b c) ≡ Some d → IsForm (a ∷ b ∷ c ∷ []) d
remove_takes a b c d word h =
    let (u, eu, is) = mapped_some (λ u. Remove u) (mention_at b c) d h in
    let m = mention_takes b c u eu in
    taken (a ∷ b ∷ c ∷ []) (Remove u) d (ap (λ x. Some x) is) (beside (word_is a (codes "remove") word) (front b c u m refl)) (both_true m.1.1 refl)

three_takes : (a b c : List ℕ) (d : Form) → three_at a b c ≡ Some d → IsForm (a ∷ b ∷ c ∷ []) d
three_takes a b c d h =
    elim (parted (is_any_case a (codes "build")) _ _ d h) [
      | inl p ↦ build_takes a b c d p.0 p.1
      | inr more ↦
          elim (parted (is_any_case a (codes "remove")) _ _ d more) [
            | inl p ↦ remove_takes a b c d p.0 p.1
            | inr unit ↦ closed_takes a b c d unit
          ]
    ]

four_takes : (kind at verb to : List ℕ) (u : Mention) (d : Form) → IsMention kind at u → four_at u verb to ≡ Some d → IsForm (kind ∷ at ∷ verb ∷ to ∷ []) d
four_takes kind at verb to u d m h =
    let (s, es, rest) = bound (spot_at to) (λ x. if is_any_case verb minus then Some (Move u x false) else if is_any_case verb (codes "r") then Some (Retreat u x) else None) d h in
    let there = spot_takes to s es in
    elim (parted (is_any_case verb minus) (Some (Move u s false)) (if is_any_case verb (codes "r") then Some (Retreat u s) else None) d rest) [
      | inl p ↦ taken (kind ∷ at ∷ verb ∷ to ∷ []) (Move u s false) d p.1 (front kind at u m (beside (word_is verb minus p.0) (beside there.0 refl))) (both_true m.1.1 (both_true there.1 refl))
      | inr more ↦
          let p = passed (is_any_case verb (codes "r")) (Retreat u s) d more in
          taken (kind ∷ at ∷ verb ∷ to ∷ []) (Retreat u s) d p.1 (front kind at u m (beside (word_is verb (codes "r") p.0) (beside there.0 refl))) (both_true m.1.1 (both_true there.1 refl))
    ]

via_takes : (kind at verb to last : List ℕ) (u : Mention) (d : Form) → IsMention kind at u → via_at u verb to last ≡ Some d → IsForm (kind ∷ at ∷ verb ∷ to ∷ last ∷ []) d
via_takes kind at verb to last u d m h =
    let (s, es, rest) = bound (spot_at to) (λ x. if is_any_case verb minus && is_any_case last (codes "via") then Some (Move u x true) else None) d h in
    let there = spot_takes to s es in
    let p = passed (is_any_case verb minus && is_any_case last (codes "via")) (Move u s true) d rest in
    let (goes, by) = and_parts (is_any_case verb minus) (is_any_case last (codes "via")) p.0 in
    taken (kind ∷ at ∷ verb ∷ to ∷ last ∷ []) (Move u s true) d p.1 (front kind at u m (beside (word_is verb minus goes) (beside there.0 (beside (word_is last (codes "via") by) refl)))) (both_true m.1.1 (both_true there.1 refl))

support_takes : (kind at verb a b : List ℕ) (u : Mention) (d : Form) → IsMention kind at u → is_any_case verb (codes "s") ≡ true → option_map (λ o. SupportHold u o false) (mention_at a b) ≡ Some d → IsForm (kind ∷ at ∷ verb ∷ a ∷ b ∷ []) d
support_takes kind at verb a b u d m word h =
    let (o, eo, is) = mapped_some (λ o. SupportHold u o false) (mention_at a b) d h in
    let other = mention_takes a b o eo in
    taken (kind ∷ at ∷ verb ∷ a ∷ b ∷ []) (SupportHold u o false) d (ap (λ x. Some x) is) (front kind at u m (beside (word_is verb (codes "s") word) (front a b o other refl))) (both_true m.1.1 (both_true other.1.1 refl))

five_takes : (kind at verb a b : List ℕ) (u : Mention) (d : Form) → IsMention kind at u → five_at u verb a b ≡ Some d → IsForm (kind ∷ at ∷ verb ∷ a ∷ b ∷ []) d
five_takes kind at verb a b u d m h =
    elim (parted (is_any_case verb (codes "s")) _ _ d h) [
      | inl p ↦ support_takes kind at verb a b u d m p.0 p.1
      | inr more ↦ via_takes kind at verb a b u d m more
    ]

six_takes : (kind at verb a b last : List ℕ) (u : Mention) (d : Form) → IsMention kind at u → six_at u verb a b last ≡ Some d → IsForm (kind ∷ at ∷ verb ∷ a ∷ b ∷ last ∷ []) d
six_takes kind at verb a b last u d m h =
    let (o, eo, rest) = bound (mention_at a b) (λ x. if is_any_case verb (codes "s") && is_any_case last (codes "h") then Some (SupportHold u x true) else None) d h in
    let other = mention_takes a b o eo in
    let p = passed (is_any_case verb (codes "s") && is_any_case last (codes "h")) (SupportHold u o true) d rest in
    let (word, held) = and_parts (is_any_case verb (codes "s")) (is_any_case last (codes "h")) p.0 in
    taken (kind ∷ at ∷ verb ∷ a ∷ b ∷ last ∷ []) (SupportHold u o true) d p.1 (front kind at u m (beside (word_is verb (codes "s") word) (front a b o other (beside (word_is last (codes "h") held) refl)))) (both_true m.1.1 (both_true other.1.1 refl))

aid_takes : (kind at verb a b sign to : List ℕ) (u o : Mention) (s : Spot) (d : Form) → IsMention kind at u → IsMention a b o → (small to ≡ spot_text s) × (is_spot s ≡ true) → small sign ≡ minus
    → aid_at u verb a o s ≡ Some d → IsForm (kind ∷ at ∷ verb ∷ a ∷ b ∷ sign ∷ to ∷ []) d
aid_takes kind at verb a b sign to u o s d m other there goes h =
    elim (parted (is_any_case verb (codes "s")) (Some (SupportMove u o s)) (if is_any_case verb (codes "c") && is_any_case a (codes "a") then Some (Convoy u o.at s) else None) d h) [
      | inl p ↦ taken (kind ∷ at ∷ verb ∷ a ∷ b ∷ sign ∷ to ∷ []) (SupportMove u o s) d p.1 (front kind at u m (beside (word_is verb (codes "s") p.0) (front a b o other (beside goes (beside there.0 refl))))) (both_true m.1.1 (both_true other.1.1 (both_true there.1 refl)))
      | inr more ↦
          let p = passed (is_any_case verb (codes "c") && is_any_case a (codes "a")) (Convoy u o.at s) d more in
          let (word, army) = and_parts (is_any_case verb (codes "c")) (is_any_case a (codes "a")) p.0 in
          taken (kind ∷ at ∷ verb ∷ a ∷ b ∷ sign ∷ to ∷ []) (Convoy u o.at s) d p.1 (front kind at u m (beside (word_is verb (codes "c") word) (beside (word_is a (codes "a") army) (beside other.1.0 (beside goes (beside there.0 refl)))))) (both_true m.1.1 (both_true other.1.1 (both_true there.1 refl)))
    ]

seven_takes : (kind at verb a b sign to : List ℕ) (u : Mention) (d : Form) → IsMention kind at u → seven_at u verb a b sign to ≡ Some d → IsForm (kind ∷ at ∷ verb ∷ a ∷ b ∷ sign ∷ to ∷ []) d
seven_takes kind at verb a b sign to u d m h =
    let (o, eo, more) = bound (mention_at a b) (λ x. spot_at to >>= (λ y. if is_any_case sign minus then aid_at u verb a x y else None)) d h in
    let (s, es, rest) = bound (spot_at to) (λ y. if is_any_case sign minus then aid_at u verb a o y else None) d more in
    elim (parted (is_any_case sign minus) (aid_at u verb a o s) None d rest) [
      | inl p ↦ aid_takes kind at verb a b sign to u o s d m (mention_takes a b o eo) (spot_takes to s es) (word_is sign minus p.0) p.1
      | inr none ↦ absurd (cc)
    ]

done_takes : (kind at verb : List ℕ) (ts : List (List ℕ)) (u : Mention) (d : Form) → IsMention kind at u → done_at u verb ts ≡ Some d → IsForm (kind ∷ at ∷ verb ∷ ts) d
done_takes kind at verb [] u d m h = absurd (cc)
done_takes kind at verb (to ∷ []) u d m h = four_takes kind at verb to u d m h
done_takes kind at verb (a ∷ b ∷ []) u d m h = five_takes kind at verb a b u d m h
done_takes kind at verb (a ∷ b ∷ last ∷ []) u d m h = six_takes kind at verb a b last u d m h
done_takes kind at verb (a ∷ b ∷ sign ∷ to ∷ []) u d m h = seven_takes kind at verb a b sign to u d m h
done_takes kind at verb (a ∷ b ∷ sign ∷ to ∷ t ∷ ts) u d m h = absurd (cc)

-- what is read of tokens has its form
pub form_takes : (ts : List (List ℕ)) (d : Form) → form_at ts ≡ Some d → IsForm ts d
form_takes [] d h = absurd (cc)
form_takes (a ∷ []) d h = absurd (cc)
form_takes (a ∷ b ∷ []) d h = absurd (cc)
form_takes (a ∷ b ∷ c ∷ []) d h = three_takes a b c d h
form_takes (kind ∷ at ∷ verb ∷ t ∷ ts) d h =
    let (u, eu, rest) = bound (mention_at kind at) (λ x. done_at x verb (t ∷ ts)) d h in
    done_takes kind at verb (t ∷ ts) u d (mention_takes kind at u eu) rest

done_same : (u : Mention) (verb : List ℕ) (ts : List (List ℕ)) → done_at u (small verb) (map small ts) ≡ done_at u verb ts
done_same u verb [] = refl
done_same u verb (to ∷ []) = rw (small_twice verb, spot_same to) refl
done_same u verb (a ∷ b ∷ []) = rw (small_twice verb, small_twice b, mention_same a b, spot_same a) refl
done_same u verb (a ∷ b ∷ last ∷ []) = rw (small_twice verb, small_twice last, mention_same a b) refl
done_same u verb (a ∷ b ∷ sign ∷ to ∷ []) = rw (mention_same a b, small_twice verb, small_twice a, small_twice sign, spot_same to) refl
done_same u verb (a ∷ b ∷ sign ∷ to ∷ t ∷ ts) = refl

-- after the first link
after : {A B : Type 0} (o : Option A) (f g : A → Option B) → ((x : A) → f x ≡ g x) → (o >>= f) ≡ (o >>= g)
after None f g h = refl
after (Some x) f g h = h x

-- reading ignores the case
form_same : (ts : List (List ℕ)) → form_at (map small ts) ≡ form_at ts
form_same [] = refl
form_same (a ∷ []) = refl
form_same (a ∷ b ∷ []) = refl
form_same (a ∷ b ∷ c ∷ []) = rw (mention_same a b, mention_same b c, small_twice a, small_twice c) refl
form_same (kind ∷ at ∷ verb ∷ t ∷ ts) = rw (mention_same kind at) (after (mention_at kind at) _ _ (λ u. done_same u verb (t ∷ ts)))

-- a kind is not a word in front of a unit
kind_first : (k : Kind) (b c : List ℕ) → three_at (kind_text k) b c ≡ closed_at (kind_text k) b c
kind_first Army b c = refl
kind_first Fleet b c = refl

-- a form is read as its form
form_read : (d : Form) → is_form d ≡ true → form_at (form_tokens d) ≡ Some d
form_read (Hold u) ok = kind_first u.kind (spot_text u.at) (codes "h") ∙ rw (mention_form u (one_spot u.at ok)) refl
form_read (Move u to true) ok = let (here, there) = two_spots u.at to ok in rw (mention_form u here, spot_form to there) refl
form_read (Move u to false) ok = let (here, there) = two_spots u.at to ok in rw (mention_form u here, spot_form to there) refl
form_read (SupportHold u o true) ok = let (here, there) = two_spots u.at o.at ok in rw (mention_form u here, mention_form o there) refl
form_read (SupportHold u o false) ok = let (here, there) = two_spots u.at o.at ok in rw (mention_form u here, mention_form o there) refl
form_read (SupportMove u o to) ok = let (here, more) = three_spots u.at o.at to ok in rw (mention_form u here, mention_form o more.0, spot_form to more.1) refl
form_read (Convoy u army to) ok = let (here, more) = three_spots u.at army to ok in rw (mention_form u here, mention_form (record { kind = Army; at = army }) more.0, spot_form to more.1) refl
form_read (Retreat u to) ok = let (here, there) = two_spots u.at to ok in rw (mention_form u here, spot_form to there) refl
form_read (Disband u) ok = kind_first u.kind (spot_text u.at) (codes "d") ∙ rw (mention_form u (one_spot u.at ok)) refl
form_read (Build u) ok = rw (mention_form u (one_spot u.at ok)) refl
form_read (Remove u) ok = rw (mention_form u (one_spot u.at ok)) refl

-- tokens of a form are read as its form
pub form_again : (ts : List (List ℕ)) (d : Form) → map small ts ≡ form_tokens d → is_form d ≡ true → form_at ts ≡ Some d
form_again ts d form places = sym (form_same ts) ∙ (ap form_at form ∙ form_read d places)

pub tokens_short : (d : Form) → length (form_tokens d) ≤ 7
tokens_short (Hold u) = omega arith
tokens_short (Move u to true) = omega arith
tokens_short (Move u to false) = omega arith
tokens_short (SupportHold u o true) = omega arith
tokens_short (SupportHold u o false) = omega arith
tokens_short (SupportMove u o to) = omega arith
tokens_short (Convoy u army to) = omega arith
tokens_short (Retreat u to) = omega arith
tokens_short (Disband u) = omega arith
tokens_short (Build u) = omega arith
tokens_short (Remove u) = omega arith

-- too few tokens, and too many
pub too_short : (xs : List (Bor (List ℕ))) → length xs < 3 → None ≡ form_at (map (λ x. x.now) xs)
too_short [] h = refl
too_short (a ∷ []) h = refl
too_short (a ∷ b ∷ []) h = refl
too_short (a ∷ b ∷ c ∷ more) h = absurd (omega arith)

pub done_long : (u : Mention) (verb : List ℕ) (xs : List (Bor (List ℕ))) → 5 ≤ length xs → None ≡ done_at u verb (map (λ x. x.now) xs)
done_long u verb [] h = refl
done_long u verb (a ∷ []) h = absurd (omega arith)
done_long u verb (a ∷ b ∷ []) h = absurd (omega arith)
done_long u verb (a ∷ b ∷ c ∷ []) h = absurd (omega arith)
done_long u verb (a ∷ b ∷ c ∷ d ∷ []) h = absurd (omega arith)
done_long u verb (a ∷ b ∷ c ∷ d ∷ e ∷ more) h = refl

-- four tokens or more
pub form_done : (xs : List (Bor (List ℕ))) (e : Bor (List ℕ)) (u : Mention) → 4 ≤ length xs → mention_at (get_or xs 0 e).now (get_or xs 1 e).now ≡ Some u
    → done_at u (get_or xs 2 e).now (map (λ t. t.now) (take (length xs - 3) (drop 3 xs))) ≡ form_at (map (λ t. t.now) xs)
form_done [] e u h m = absurd (omega arith)
form_done (a ∷ []) e u h m = absurd (omega arith)
form_done (a ∷ b ∷ []) e u h m = absurd (omega arith)
form_done (a ∷ b ∷ c ∷ []) e u h m = absurd (omega arith)
form_done (a ∷ b ∷ c ∷ d ∷ more) e u h m = rw (take_rest (a ∷ b ∷ c ∷ d ∷ more) 3, m) refl
