-- The rows of tables that are ours can be read by the map.
use Rattle.std.proofs.Common.{◌≡◌, ℕ, pos, ◌<◌, ◌+◌, ◌^◌, ◌==◌, Bool, true, false, List, [], ◌∷◌, ◌++◌, length, map, filter, option_map, codes, Option, Some, None, refl, sym, ap, subst, ◌∙◌, inl, inr, append_assoc, arith}
use Rattle.std.specs.Fmt.{decimal}
use Rattle.std.specs.List.{AllByRecursion, find}
use Rattle.std.proofs.lemmas.Bool.{cases_Bool, eqb-true}
use Rattle.sqlite.specs.declared.types.Value.TheVariants.{Int, Text as Words, Blob as Bytes}
use Rattle.sqlite.specs.Order.{Row, column, bytes}
use Rattle.dip_store_tables.proofs.ListLemmas.{all_both, all-filter, all_map, all_weaker}
use Rattle.dip_map.specs.Charts.{Chart}
use Rattle.dip_store_tables.specs.Columns.{IsPrinted}
use Rattle.dip_store_tables.specs.Legible.{AreOurs, IsDeskLegible, IsItemLegible, IsOrderLegible, IsPaperLegible, IsSeatLegible, IsText}
use Rattle.dip_store_tables.proofs.MapTexts.{code_text, power_text}
use Rattle.dip_store_tables.proofs.VoteLemmas.{ballot_is_text}
use Rattle.dip_desk_state.specs.Records.{Item, White, Grey, Kept}
use Rattle.dip_store_sql.specs.Rows.{number_in}
use Rattle.dip_store_sql.specs.Values.{HasDigest, HasNumber, HasText}
use Rattle.dip_store_sql.proofs.Typed.{has_text}
use Rattle.dip_store_sql.specs.Showing.{is_item, is_numbered, show_ballot, show_desk, show_digest, show_item, show_listed, show_order, show_paper, show_seat}
use Rattle.dip_store_sql.specs.TablesAfter.{is_first}
use Rattle.dip_store_tables.specs.Coding.{AreCoded, IsSeatOf}
use Rattle.dip_store_tables.specs.Tables.{BoxRow, DeskRow, PendingRow, SeatRow, Tables, is_ballot, is_pending, is_seat, is_seat_in}
use Rattle.dip_store_tables.specs.Writing.{box_row, number_of, whole_reply}
use Rattle.dip_store_tables.specs.Votes.{IsBallotText}
use Rattle.dip_store_tables.specs.Written.{IsDeskWritten, IsItemWritten, IsOrderWritten, IsSeatWritten, KeepsLetter}
use Rattle.dip_store_looks.specs.Readable.{IsBallotReadable, IsDeskReadable, IsItemReadable, IsKeptReadable, IsListedReadable, IsOrderReadable, IsSeatReadable}

pub has_number : (r : Row) (at n : ℕ) → at < length r → column r at ≡ Int (pos n) → n < 2 ^ 32 → HasNumber r at
has_number r at n low is small = record { there = low; number = n; is = is; low = small }

has_digest : (r : Row) (at : ℕ) (d : List ℕ) → at < length r → column r at ≡ Bytes d → length d ≡ 32 → HasDigest r at
has_digest r at d low is long = record { there = low; all = d; is = is; length_is = long }

pub small_number : (b : Bool) → number_of b < 2 ^ 32
small_number true = omega arith
small_number false = omega arith

module _ {A : Type 0} (P : A → Type 0) (Q : Row → Type 0) (show : A → Row) (test : A → Bool) (turn : (x : A) → P x → Q (show x)) where
  -- what holds of each record holds, as it is shown, of the row of the one that is found
  pub found_as : (xs : List A) (row : Row) → AllByRecursion P xs → Some row ≡ option_map show (find test xs) → Q row
  found_as [] row all = λ is. absurd (cc)
  found_as (x ∷ xs) row all = elim (cases_Bool (test x)) [
    | inl hit ↦ rw hit (λ is. let same : row ≡ show x = cc in subst Q (sym same) (turn x all.0))
    | inr off ↦ rw off (λ is. found_as xs row all.1 is)
  ]

  -- and of the rows of those that are listed
  pub listed_as : (xs : List A) (rows : List Row) → AllByRecursion P xs → rows ≡ map show (filter test xs) → AllByRecursion Q rows
  listed_as xs rows all is =
      subst (AllByRecursion Q) (sym is)
      (all_map Q show (filter test xs) (all_weaker P (λ x. Q (show x)) turn (filter test xs) (all-filter P test xs all)))

pub paper_readable : (m : Chart) (t : Tables) → AreOurs m t → (name : List ℕ) (number : ℕ) (row : Row)
    → Some row ≡ option_map show_paper (find (is_numbered name number) t.papers) → HasText row 0
paper_readable m t ours name number row shown =
    found_as IsPaperLegible (λ r. HasText r 0) show_paper (is_numbered name number)
    (λ p it. has_text (show_paper p) 0 p.body (omega arith) refl it) t.papers row ours.legible.papers shown

-- a line, and after it END, is a printed reply
printed : (front lines : List ℕ) → IsPrinted (front ++ 10 ∷ (lines ++ codes "END\n"))
printed [] lines = ([], lines, tt, refl)
printed (x ∷ front) lines = elim (cases_Bool (x == 10)) [
  | inl hit ↦
      let same : x ≡ 10 = eqb-true x 10 hit in
      ([], front ++ 10 ∷ lines, tt, ap (λ b. b ∷ (front ++ 10 ∷ (lines ++ codes "END\n"))) same ∙ ap (λ t. 10 ∷ t) (sym (append_assoc front (10 ∷ lines) (codes "END\n"))))
  | inr off ↦
      let more = printed front lines in
      (x ∷ more.0, more.1, (off, more.2), ap (λ t. x ∷ t) more.3)
]

reply_printed : (game sender : List ℕ) (k : Kept) → IsPrinted (whole_reply game sender k)
reply_printed game sender k =
    let line = codes "REPLY " ++ game ++ codes " " ++ sender ++ codes " " ++ decimal k.number in
    subst IsPrinted (sym (append_assoc (line ++ 10 ∷ []) k.reply (codes "END\n") ∙ append_assoc line (10 ∷ []) (k.reply ++ codes "END\n"))) (printed line k.reply)

-- the last letter that columns keep
kept_readable : (r : Row) (at : ℕ) (game sender : List ℕ) (k : Option Kept) (last : ℕ) (sum reply : List ℕ)
    → KeepsLetter game sender k last sum reply → IsText reply
    → at + 2 < length r → column r at ≡ Int (pos last) → column r (at + 1) ≡ Bytes sum → column r (at + 2) ≡ Words reply → IsKeptReadable r at
kept_readable r at game sender None last sum reply it text low one two three =
    let none : number_in (column r at) ≡ 0 = ap number_in one ∙ it.0 in
    record {
      last = has_number r at last (omega (arith, low)) one (omega (arith, it.0));
      sum = λ some. absurd (some none);
      reply = λ some. absurd (some none);
      printed = λ some. absurd (some none);
    }
kept_readable r at game sender (Some k) last sum reply it text low one two three =
    record {
      last = has_number r at last (omega (arith, low)) one (omega (arith, it.1, it.2));
      sum = λ some. has_digest r (at + 1) sum (omega (arith, low)) two it.4;
      reply = λ some. has_text r (at + 2) reply low three text;
      printed = λ some. subst IsPrinted (sym (ap bytes three ∙ it.5)) (reply_printed game sender k);
    }

-- seats
abbrev IsSeatOurs : SeatRow → Type 0
IsSeatOurs s = IsSeatWritten s × IsSeatLegible s

seat_readable : (s : SeatRow) → IsSeatOurs s → IsSeatReadable (show_seat s) 0
seat_readable s it =
    let r = show_seat s in
    record {
      digest = has_digest r 0 s.digest (omega arith) refl it.0.digest;
      kept = kept_readable r 2 s.game s.power it.0.letter.0 s.last s.kept s.reply it.0.letter.1 it.1.0 (omega arith) refl refl refl;
      sent = has_number r 5 s.sent (omega arith) refl it.1.1;
      items = has_number r 6 s.items (omega arith) refl it.1.2;
    }

seat_listed : (m : Chart) (t : Tables) → AreOurs m t → (s : SeatRow) → IsSeatOf m s × IsSeatOurs s → IsListedReadable m (show_listed s)
seat_listed m t ours s of_ours =
    let r = show_listed s in
    let it = of_ours.1 in
    let power = of_ours.0 in
    record {
      name = has_text r 0 s.power (omega arith) refl (subst IsText (sym power.2) (power_text m ours.map power.0 power.1));
      number = power.0;
      low = power.1;
      of_map = power.2;
      seat = record {
        digest = has_digest r 1 s.digest (omega arith) refl it.0.digest;
        kept = kept_readable r 3 s.game s.power it.0.letter.0 s.last s.kept s.reply it.0.letter.1 it.1.0 (omega arith) refl refl refl;
        sent = has_number r 6 s.sent (omega arith) refl it.1.1;
        items = has_number r 7 s.items (omega arith) refl it.1.2;
      };
    }

module _ (m : Chart) (t : Tables) (ours : AreOurs m t) where
  seats_ours : AllByRecursion IsSeatOurs t.seats
  seats_ours = all_both IsSeatWritten IsSeatLegible IsSeatOurs (λ s a b. (a, b)) t.seats ours.written.seats ours.legible.seats

  pub seat_found_readable : (name power : List ℕ) (row : Row) → Some row ≡ option_map show_seat (find (is_seat name power) t.seats) → IsSeatReadable row 0
  seat_found_readable name power row shown = found_as IsSeatOurs (λ r. IsSeatReadable r 0) show_seat (is_seat name power) seat_readable t.seats row seats_ours shown

  pub digest_found_readable : (name power : List ℕ) (row : Row) → Some row ≡ option_map show_digest (find (is_seat name power) t.seats) → HasDigest row 0
  digest_found_readable name power row shown =
      found_as IsSeatOurs (λ r. HasDigest r 0) show_digest (is_seat name power) (λ s it. has_digest (show_digest s) 0 s.digest (omega arith) refl it.0.digest) t.seats row seats_ours shown

  pub seats_readable : (name : List ℕ) (rows : List Row) → rows ≡ map show_listed (filter (is_seat_in name) t.seats) → AllByRecursion (IsListedReadable m) rows
  seats_readable name rows is =
      listed_as (λ s. IsSeatOf m s × IsSeatOurs s) (IsListedReadable m) show_listed (is_seat_in name) (seat_listed m t ours) t.seats rows
      (all_both (IsSeatOf m) IsSeatOurs (λ s. IsSeatOf m s × IsSeatOurs s) (λ s a b. (a, b)) t.seats ours.coded.seats seats_ours) is

  order_readable : (p : PendingRow) → IsOrderWritten m p × IsOrderLegible p → IsOrderReadable m (show_order p)
  order_readable p it =
      let r = show_order p in
      let o = it.0 in
      record {
        province = has_text r 0 p.province (omega arith) refl (subst IsText (sym o.2) (code_text m ours.map o.0 o.1));
        number = o.0;
        low = o.1;
        of_map = o.2;
        line = has_text r 1 p.line (omega arith) refl it.1;
      }

  pub orders_readable : (name power : List ℕ) (rows : List Row) → rows ≡ map show_order (filter (is_pending name power) t.pending) → AllByRecursion (IsOrderReadable m) rows
  orders_readable name power rows is =
      listed_as (λ p. IsOrderWritten m p × IsOrderLegible p) (IsOrderReadable m) show_order (is_pending name power) order_readable t.pending rows
      (all_both (IsOrderWritten m) IsOrderLegible (λ p. IsOrderWritten m p × IsOrderLegible p) (λ p a b. (a, b)) t.pending ours.written.pending ours.legible.pending) is

  -- items
  grey_small : (name power : List ℕ) (n : ℕ) (item : Item) → (box_row name power n item).grey < 2 ^ 32
  grey_small name power n (White writer addressees text) = omega arith
  grey_small name power n (Grey to_all text) = omega arith

  item_readable : (b : BoxRow) → IsItemWritten b × IsItemLegible b → IsItemReadable (show_item b)
  item_readable b it =
      let r = show_item b in
      record {
        grey = has_number r 0 b.grey (omega arith) refl (subst (λ (x : BoxRow). x.grey < 2 ^ 32) (sym it.0.2) (grey_small b.game b.power b.number it.0.0));
        writer = has_text r 1 b.writer (omega arith) refl it.1.0;
        addressees = has_text r 2 b.addressees (omega arith) refl it.1.1;
        body = has_text r 3 b.body (omega arith) refl it.1.2;
      }

  pub item_found_readable : (name power : List ℕ) (n : ℕ) (row : Row) → Some row ≡ option_map show_item (find (is_item name power n) t.boxes) → IsItemReadable row
  item_found_readable name power n row shown =
      found_as (λ b. IsItemWritten b × IsItemLegible b) IsItemReadable show_item (is_item name power n) item_readable t.boxes row
      (all_both IsItemWritten IsItemLegible (λ b. IsItemWritten b × IsItemLegible b) (λ b x y. (x, y)) t.boxes ours.written.boxes ours.legible.boxes) shown

  -- the master's row
  desk_readable : (d : DeskRow) → IsDeskWritten d × IsDeskLegible d → IsDeskReadable (show_desk d)
  desk_readable d it =
      let r = show_desk d in
      let letter = it.0.letter in
      record {
        digest = has_digest r 2 d.digest (omega arith) refl it.0.digest;
        kept = kept_readable r 3 letter.0 (codes "master") letter.1 d.last d.kept d.reply letter.2 it.1 (omega arith) refl refl refl;
      }

  pub desk_found_readable : (row : Row) → Some row ≡ option_map show_desk (find is_first t.desk) → IsDeskReadable row
  desk_found_readable row shown =
      found_as (λ d. IsDeskWritten d × IsDeskLegible d) IsDeskReadable show_desk is_first desk_readable t.desk row
      (all_both IsDeskWritten IsDeskLegible (λ d. IsDeskWritten d × IsDeskLegible d) (λ d a b. (a, b)) t.desk ours.written.desk ours.legible.desk) shown

pub desk_there : (m : Chart) (t : Tables) → AreCoded m t → None ≡ option_map show_desk (find is_first t.desk) → ⊥
desk_there m t coded is =
    let d = coded.desk.0 in
    let first : find is_first (d ∷ []) ≡ Some d = rw coded.desk.2 refl in
    let bad : None ≡ Some (show_desk d) = is ∙ ap (λ ds. option_map show_desk (find is_first ds)) coded.desk.1 ∙ ap (option_map show_desk) first in
    cc

module _ (m : Chart) (t : Tables) (ours : AreOurs m t) where
  ballots_readable : AllByRecursion (λ b. IsBallotReadable m (show_ballot b)) t.ballots
  ballots_readable =
      all_weaker (λ b. IsBallotText m b.names) (λ b. IsBallotReadable m (show_ballot b))
      (λ b it. record { text = has_text (show_ballot b) 0 b.names (omega arith) refl (subst IsText (sym it.2) (ballot_is_text m ours.map it.0 it.1)); vote = it }) t.ballots ours.written.ballots

  pub ballot_found_readable : (name power : List ℕ) (row : Row) → Some row ≡ option_map show_ballot (find (is_ballot name power) t.ballots) → IsBallotReadable m row
  ballot_found_readable name power row shown = found_as (λ b. IsBallotReadable m (show_ballot b)) (IsBallotReadable m) show_ballot (is_ballot name power) (λ b it. it) t.ballots row ballots_readable shown
