-- The replies are those of the run.
use mathlib.Core.Path.{◌≡◌, refl, sym, ap, ◌∙◌}
use mathlib.Core.Bool.{Bool, true}
use mathlib.Core.List.{List, [], ◌∷◌, ◌++◌, append_assoc, append-nil}
use Prim.Native.Nat.{ℕ, zero, suc, ◌-◌, ◌<◌}
use native.Mathlib.Omega.{arith}
use lib.ListN.{length}
use Rattle.basis.specs.Choice.{pick}
use Rattle.table.specs.declared.calls.Call.{Call}
use Rattle.record.specs.declared.reading.Read.{Read}
use Rattle.record.specs.declared.reading.Read.TheVariants.{End, Cut, Unknown, Record}
use Rattle.record.specs.Reading.{read_at, stop_number, part_of}
use Rattle.state.specs.declared.kept.Book.{Book}
use Rattle.book.specs.Step.{step_of}
use Rattle.book.specs.Lists.{Event}
use Rattle.journal.specs.declared.outcome.Run.{Run}
use Rattle.journal.specs.Run.{started, run_from, run_of}
use Rattle.journal.specs.Calls.{calls_from, places_from, calls_of, record_places, numbers_after, reply_numbers}
use Rattle.journal.proofs.Reading.{next_above, next-within}
use Rattle.journal.proofs.Turns.{turned, run_end, run_cut, run_unknown, run_record}
use Rattle.journal.proofs.Calls.{calls_end, calls_cut, calls_unknown, calls_record, places_record}
use Rattle.desk.proofs.Lines.{ending, line-record, book_record, place_record, more_record}
use Rattle.desk.specs.Replies.{reply_line, end_line, line_at, book_behind, place_behind, is_last, lines_from, replies_of}
use Rattle.desk.specs.Promises.{lines_of, RepliesOfTheRun}

-- the lines from a place on, where the first is the last
lines-last : (n : ℕ) (s : List ℕ) (b : Book) (at : ℕ) → is_last s at ≡ true → lines_from (suc n) s b at ≡ line_at s b at
unfolding lines_from
lines-last n s b at h =
    ap (λ (t : Bool). line_at s b at ++ pick t [] (lines_from n s (book_behind s b at) (place_behind s at))) h ∙ append-nil (line_at s b at)

-- .. and where a record stands
module _ (n : ℕ) (s : List ℕ) (b : Book) (at : ℕ) {c : Call} {from next : ℕ} (e : read_at s at ≡ Record c from next) where
  lines-record : lines_from (suc n) s b at ≡ reply_line at c (part_of s from next) (step_of b c (part_of s from next)).number ++ lines_from n s (step_of b c (part_of s from next)).book next
  unfolding lines_from
  lines-record =
      ap (λ (t : Bool). line_at s b at ++ pick t [] (lines_from n s (book_behind s b at) (place_behind s at))) (more_record s b at e)
      ∙ ap (λ (l : List ℕ). l ++ lines_from n s (book_behind s b at) (place_behind s at)) (line-record s b at e)
      ∙ ap (λ (x : Book). reply_line at c (part_of s from next) (step_of b c (part_of s from next)).number ++ lines_from n s x (place_behind s at)) (book_record s b at e)
      ∙ ap (λ k. reply_line at c (part_of s from next) (step_of b c (part_of s from next)).number ++ lines_from n s (step_of b c (part_of s from next)).book k) (place_record s b at e)

-- all lines of a run from where it stands
abbrev told_of : ℕ → List ℕ → Run → List ℕ
told_of n s r =
    lines_of (places_from n s r.place) (calls_from n s r.place) (numbers_after r.book (calls_from n s r.place))
    ++ end_line (run_from n s r).place (run_from n s r).stop

no_lines : (places : List ℕ) (events : List Event) (numbers : List ℕ) → events ≡ [] → lines_of places events numbers ≡ []
unfolding lines_of
no_lines [] events numbers e = refl
no_lines (place ∷ places) events numbers e = rw e

-- one record more
lines_more : (n : ℕ) (s : List ℕ) (r : Run) {c : Call} {from next : ℕ} → read_at s r.place ≡ Record c from next → lines_of (places_from (suc n) s r.place) (calls_from (suc n) s r.place) (numbers_after r.book (calls_from (suc n) s r.place)) ≡ reply_line r.place c (part_of s from next) (step_of r.book c (part_of s from next)).number ++ lines_of (places_from n s next) (calls_from n s next) (numbers_after (turned s r c from next).book (calls_from n s next))
unfolding lines_of numbers_after
lines_more n s r e = rw (places_record n s r.place e, calls_record n s r.place e)

told_from : (n : ℕ) (s : List ℕ) (r : Run) → length s - r.place < n → r.stop ≡ 0 → lines_from n s r.book r.place ≡ told_of n s r
told_from zero s r h z = absurd (omega arith)
told_from (suc n) s r h z = go (read_at s r.place) refl (λ q a b. told_from n s q a b)
  where
    -- no record stands there
    last : {stop : ℕ} {q : Run} → calls_from (suc n) s r.place ≡ [] → run_from (suc n) s r ≡ q → q.place ≡ r.place → q.stop ≡ stop → end_line r.place stop ≡ told_of (suc n) s r
    last {stop} {q} c e p t =
        ap (λ k. end_line r.place k) (sym t)
        ∙ ap (λ k. end_line k q.stop) (sym p)
        ∙ ap (λ (x : Run). end_line x.place x.stop) (sym e)
        ∙ ap (λ (l : List ℕ). l ++ end_line (run_from (suc n) s r).place (run_from (suc n) s r).stop) (sym (no_lines (places_from (suc n) s r.place) _ (numbers_after r.book (calls_from (suc n) s r.place)) c))

    ended : (x : Read) → read_at s r.place ≡ x → ((c : Call) (from next : ℕ) → x ≡ Record c from next → ⊥) → lines_from (suc n) s r.book r.place ≡ end_line r.place (stop_number x)
    ended x e k =
        let w = ending s r.book r.place x e k in
        lines-last n s r.book r.place w.last ∙ w.line

    go : (x : Read) → read_at s r.place ≡ x → ((q : Run) → length s - q.place < n → q.stop ≡ 0 → lines_from n s q.book q.place ≡ told_of n s q) → lines_from (suc n) s r.book r.place ≡ told_of (suc n) s r
    go End e f =
        ended End e (λ c from next k. let o : ◌≡◌ {A = ℕ} 0 1 = cc in absurd (omega arith)) ∙ last (calls_end n s r.place e) (run_end n s r e) refl z
    go Cut e f =
        ended Cut e (λ c from next k. let o : ◌≡◌ {A = ℕ} 0 1 = cc in absurd (omega arith)) ∙ last (calls_cut n s r.place e) (run_cut n s r e) refl refl
    go Unknown e f =
        ended Unknown e (λ c from next k. let o : ◌≡◌ {A = ℕ} 0 1 = cc in absurd (omega arith)) ∙ last (calls_unknown n s r.place e) (run_unknown n s r e) refl refl
    go (Record c from next) e f =
        let a = next_above s r.place e in
        let b = next-within s r.place e in
        let q = turned s r c from next in
        let line = reply_line r.place c (part_of s from next) (step_of r.book c (part_of s from next)).number in
        lines-record n s r.book r.place e
        ∙ ap (λ (l : List ℕ). line ++ l) (f q (omega arith) z)
        ∙ sym (append_assoc line (lines_of (places_from n s next) (calls_from n s next) (numbers_after q.book (calls_from n s next))) (end_line (run_from n s q).place (run_from n s q).stop))
        ∙ ap (λ (x : Run). (line ++ lines_of (places_from n s next) (calls_from n s next) (numbers_after q.book (calls_from n s next))) ++ end_line x.place x.stop) (sym (run_record n s r e))
        ∙ ap (λ (l : List ℕ). l ++ end_line (run_from (suc n) s r).place (run_from (suc n) s r).stop) (sym (lines_more n s r e))

pub replies_of_the_run : RepliesOfTheRun
unfolding replies_of record_places calls_of reply_numbers run_of started
replies_of_the_run s = told_from (suc (length s)) s started (omega arith) refl
