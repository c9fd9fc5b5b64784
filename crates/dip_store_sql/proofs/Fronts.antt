-- A text that only reads is one statement that only reads, whatever the schema has.
use Rattle.std.proofs.Common.{◌≡◌, ◌≤◌, ◌+◌, inl, inr, ℕ, List, [], true, None, Ok, Err, length, nat_le, refl, sym, ap, subst, ◌∙◌}
use Rattle.std.proofs.lemmas.Bool.{cases_Bool}
use Rattle.sqlite.specs.Compile.{command, compiled, first, meaning, planned, returning, small, timed, with_command}
use Rattle.sqlite.specs.Given.{IsPlain}
use Rattle.sqlite.specs.Listing.{if_select, is_select, listing_schema, reads_listing, understood}
use Rattle.sqlite.specs.Schema.{Schema}
use Rattle.sqlite_resolve.specs.declared.compiled.Compiled.{Compiled}
use Rattle.sqlite_resolve.specs.Lowering.{Checked, and_then}
use Rattle.sqlite_tied.specs.Compute.{everything}
use Rattle.dip_store_sql.specs.Asking.{IsWhole}
use Rattle.dip_store_sql.specs.Statements as text
use Rattle.dip_store_sql.proofs.Found.{within}

then_ok : {A B : Type 0} (r : Checked A) (f : A → Checked B) (b : B) → and_then r f ≡ Ok b → (a : A) × (r ≡ Ok a) × (f a ≡ Ok b)
then_ok (Ok a) f b h = (a, refl, h)
then_ok (Err e) f b h = absurd (cc)

selected : (r : Checked Compiled) (c : Compiled) → if_select r ≡ Ok c → r ≡ Ok c
selected (Ok k) c h = elim (cases_Bool (is_select k.command)) [
  | inl e ↦ rw e at h
  | inr e ↦ absurd (let x = rw e at h in cc)
]
selected (Err e) c h = absurd (cc)

-- by what is read in the text alone: it is one statement, which shows nothing that it writes, and wants no time
record IsFront (text : List ℕ) (p : _) : Type 0 where
  is : first text ≡ Ok p
  whole : nat_le (length text) p.tail ≡ true
  silent : (schema : Schema) (base : ℕ) → returning schema base p.statement ≡ Ok None
  untimed : (schema : Schema) → timed schema p.formats p.statement ≡ []

module _ (text : List ℕ) (p : _) (front : IsFront text p) where
  abbrev IsRead : Compiled → Type 0
  IsRead c = (length text ≤ c.tail) × IsPlain (Ok c)

  read_in : (schema : Schema) (c : Compiled) → and_then (planned schema p) (λ plan. Ok (with_command p plan)) ≡ Ok c → IsRead c
  unfolding planned meaning
  read_in schema c h =
      let formats = timed schema p.formats p.statement in
      let base = small p.names + small formats in
      let plan = then_ok (planned schema p) (λ plan. Ok (with_command p plan)) c h in
      let found = then_ok (meaning schema p base) (λ found. Ok (formats, found)) plan.0 plan.1 in
      let shown = then_ok (returning schema base p.statement) (λ shown. and_then (command schema p.formats base p.statement) (λ k. Ok (k, shown))) found.0 found.1 in
      let named = then_ok (command schema p.formats base p.statement) (λ k. Ok (k, shown.0)) found.0 shown.2 in
      let none : shown.0 ≡ None = (let x = sym shown.1 ∙ front.silent schema base in cc) in
      let is : with_command p plan.0 ≡ c = (let x = plan.2 in cc) in
      let pair : (named.0, shown.0) ≡ found.0 = (let x = named.2 in cc) in
      let both : (formats, found.0) ≡ plan.0 = (let x = found.2 in cc) in
      subst IsRead is (within _ _ front.whole, (sym (ap (λ q. q.1.1) both) ∙ sym (ap (λ q. q.1) pair) ∙ none, sym (ap (λ q. q.0) both) ∙ front.untimed schema))

  compiled_read : (schema : Schema) (c : Compiled) → compiled schema text ≡ Ok c → IsRead c
  unfolding compiled
  compiled_read schema c h = read_in schema c (rw front.is at h)

  understood_read : (schema : Schema) (c : Compiled) → understood schema text ≡ Ok c → IsRead c
  unfolding understood
  understood_read schema c h = elim (cases_Bool (reads_listing schema text)) [
    | inl e ↦ compiled_read listing_schema c (selected (compiled listing_schema text) c (rw e at h))
    | inr e ↦ compiled_read schema c (rw e at h)
  ]

  whole_front : IsWhole text
  whole_front = record { reads = understood_read }

pub find_desk : IsWhole text.find_desk_text
unfolding first returning timed everything
find_desk = whole_front text.find_desk_text _ (record { is = refl; whole = refl; silent = λ schema base. refl; untimed = λ schema. refl })

pub find_game : IsWhole text.find_game_text
unfolding first returning timed everything
find_game = whole_front text.find_game_text _ (record { is = refl; whole = refl; silent = λ schema base. refl; untimed = λ schema. refl })

pub list_seats : IsWhole text.list_seats_text
unfolding first returning timed everything
list_seats = whole_front text.list_seats_text _ (record { is = refl; whole = refl; silent = λ schema base. refl; untimed = λ schema. refl })

pub list_units : IsWhole text.list_units_text
unfolding first returning timed everything
list_units = whole_front text.list_units_text _ (record { is = refl; whole = refl; silent = λ schema base. refl; untimed = λ schema. refl })

pub list_centres : IsWhole text.list_centres_text
unfolding first returning timed everything
list_centres = whole_front text.list_centres_text _ (record { is = refl; whole = refl; silent = λ schema base. refl; untimed = λ schema. refl })

pub list_orders : IsWhole text.list_orders_text
unfolding first returning timed everything
list_orders = whole_front text.list_orders_text _ (record { is = refl; whole = refl; silent = λ schema base. refl; untimed = λ schema. refl })

pub find_item : IsWhole text.find_item_text
unfolding first returning timed everything
find_item = whole_front text.find_item_text _ (record { is = refl; whole = refl; silent = λ schema base. refl; untimed = λ schema. refl })

pub find_paper : IsWhole text.find_paper_text
unfolding first returning timed everything
find_paper = whole_front text.find_paper_text _ (record { is = refl; whole = refl; silent = λ schema base. refl; untimed = λ schema. refl })

pub find_ballot : IsWhole text.find_ballot_text
unfolding first returning timed everything
find_ballot = whole_front text.find_ballot_text _ (record { is = refl; whole = refl; silent = λ schema base. refl; untimed = λ schema. refl })

pub find_choice : IsWhole text.find_choice_text
unfolding first returning timed everything
find_choice = whole_front text.find_choice_text _ (record { is = refl; whole = refl; silent = λ schema base. refl; untimed = λ schema. refl })
