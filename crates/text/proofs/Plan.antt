-- The text of a written plan is the plan's text: each record is read back, and the line feed that stands before a line in one is behind it in the other.
use mathlib.Core.Path.{◌≡◌, refl, sym, ap, ap₂, ◌∙◌}
use mathlib.Core.Bool.{Bool}
use mathlib.Core.List.{List, [], ◌∷◌, ◌++◌, flat_map, append_assoc, append-nil}
use Prim.Native.Nat.{ℕ, ◌<◌}
use native.Mathlib.Omega.{arith}
use lib.ListN.{length, drop}
use lib.Seq.{drop-length}
use Rattle.network.specs.Lists.{All}
use Rattle.network.specs.Plane.{Point}
use Rattle.plan.specs.declared.Head.{Head}
use Rattle.plan.specs.Records.{head_record, route_record, corner_record, end_record}
use Rattle.plan.specs.Plan.{Entry, entry_bytes, total_corners, book_bytes}
use Rattle.plan.specs.Fits.{PointIn, HeadFits, CentreFits}
use Rattle.plan.proofs.Length.{behind_route}
use Rattle.book.specs.Right.{RightEntry, RightBook}
use Rattle.records.proofs.Records.{head_read, route_read, corner_read, end_kind}
use Rattle.text.specs.Numerals.{ascii}
use Rattle.text.specs.Text.{head_text, route_text, corner_text, point_text, entry_text, plan_text}
use Rattle.records.specs.Records.{record_of}
use Rattle.text.specs.Listing.{record_text, record_size, listing_from, listing_of}
use Rattle.records.specs.declared.Record.{Record}
use Rattle.records.specs.declared.Record.TheVariants as rec
use Rattle.text.proofs.Signed.{word_decimetres}
use Rattle.text.proofs.Listing.{listing_step}

-- ---- the text of each, and of what stands behind it

-- the first record, where it is known
listing_of_lem : (bytes : List ℕ) (r : Record) → record_of bytes ≡ r → listing_of bytes ≡ record_text r ++ listing_of (drop (record_size r (length bytes)) bytes)
listing_of_lem bytes r e = listing_step bytes ∙ ap (λ s. record_text s ++ listing_of (drop (record_size s (length bytes)) bytes)) e

-- a head
head_listing : (h : Head) (rest : List ℕ) → HeadFits h → listing_of (head_record h ++ rest) ≡ head_text h ++ listing_of rest
unfolding record_text record_size
head_listing h rest f = listing_of_lem (head_record h ++ rest) (rec.Head h) (head_read h rest f)

-- a route begins a line
route_listing : (g : Bool) (number meets corners centre : ℕ) (rest : List ℕ) → number < 65536 → meets < 65536 → corners < 65536 → CentreFits g centre
    → listing_of (route_record g number meets corners centre ++ rest) ≡ (ascii "\n" ++ route_text g number meets centre corners) ++ listing_of rest
unfolding record_text record_size
route_listing g number meets corners centre rest f m h k =
    listing_of_lem (route_record g number meets corners centre ++ rest) _ (route_read g number meets corners centre rest f m h k)
    ∙ ap (λ l. (ascii "\n" ++ route_text g number meets centre corners) ++ listing_of l) (behind_route g number meets corners centre rest)

-- a corner, in decimetres
corner_listing : (p : Point) (rest : List ℕ) → PointIn p → listing_of (corner_record p ++ rest) ≡ point_text p ++ listing_of rest
unfolding record_text record_size
corner_listing p rest f =
    listing_of_lem (corner_record p ++ rest) _ (corner_read p rest)
    ∙ ap₂ (λ x y. corner_text x y ++ listing_of rest) (word_decimetres p.x f.x_in) (word_decimetres p.y f.y_in)

-- an end ends the text
end_listing : (corners : ℕ) (rest : List ℕ) → listing_of (end_record corners ++ rest) ≡ ascii "\n"
unfolding record_text record_size listing_of listing_from
end_listing corners rest =
    listing_of_lem (end_record corners ++ rest) _ (end_kind corners rest)
    ∙ ap (λ l. ascii "\n" ++ listing_of l) (drop-length (end_record corners ++ rest))

-- ---- the records of a plan, one behind the other

-- the corners of a route
corners_listing : (ps : List Point) (rest : List ℕ) → All PointIn ps → listing_of (flat_map corner_record ps ++ rest) ≡ flat_map point_text ps ++ listing_of rest
unfolding flat_map
corners_listing [] rest a = refl
corners_listing (p ∷ ps) rest a =
    ap listing_of (append_assoc (corner_record p) (flat_map corner_record ps) rest)
    ∙ corner_listing p (flat_map corner_record ps ++ rest) a.0
    ∙ ap (λ t. point_text p ++ t) (corners_listing ps rest a.1)
    ∙ sym (append_assoc (point_text p) (flat_map point_text ps) (listing_of rest))

-- the records of a run
entry_listing : (g : Bool) (e : Entry) (rest : List ℕ) → RightEntry g e → listing_of (entry_bytes g e ++ rest) ≡ (ascii "\n" ++ entry_text g e) ++ listing_of rest
entry_listing g e rest r =
    let route = route_record g e.number e.meets (length e.corners) e.centre in
    let line = ascii "\n" ++ route_text g e.number e.meets e.centre (length e.corners) in
    ap listing_of (append_assoc route (flat_map corner_record e.corners) rest)
    ∙ route_listing g e.number e.meets (length e.corners) e.centre (flat_map corner_record e.corners ++ rest) r.number_fits r.meets_fits
    (omega (arith, r.few)) r.centre_fits
    ∙ ap (λ t. line ++ t) (corners_listing e.corners rest r.in_range)
    ∙ sym (append_assoc line (flat_map point_text e.corners) (listing_of rest))

-- the records of all runs
entries_listing : (g : Bool) (es : List Entry) (rest : List ℕ) → All (RightEntry g) es
    → listing_of (flat_map (entry_bytes g) es ++ rest) ≡ flat_map (λ e. ascii "\n" ++ entry_text g e) es ++ listing_of rest
unfolding flat_map
entries_listing g [] rest r = refl
entries_listing g (e ∷ es) rest r =
    ap listing_of (append_assoc (entry_bytes g e) (flat_map (entry_bytes g) es) rest)
    ∙ entry_listing g e (flat_map (entry_bytes g) es ++ rest) r.0
    ∙ ap (λ t. (ascii "\n" ++ entry_text g e) ++ t) (entries_listing g es rest r.1)
    ∙ sym (append_assoc (ascii "\n" ++ entry_text g e) (flat_map (λ e. ascii "\n" ++ entry_text g e) es) (listing_of rest))

-- a separator before each text and one at the end, or one first and then one behind each
separators : {A : Type 0} (s : List ℕ) (f : A → List ℕ) (l : List A) → flat_map (λ a. s ++ f a) l ++ s ≡ s ++ flat_map (λ a. f a ++ s) l
unfolding flat_map
separators s f [] = sym (append-nil s)
separators s f (a ∷ l) =
    append_assoc (s ++ f a) (flat_map (λ b. s ++ f b) l) s
    ∙ ap (λ t. (s ++ f a) ++ t) (separators s f l)
    ∙ simp append_assoc

-- The listing of a right book's bytes, whatever stands behind them, is the plan's text.
pub plan_listing : (head : Head) (es : List Entry) → RightBook head es → (rest : List ℕ) → listing_of (book_bytes head es ++ rest) ≡ plan_text head es
unfolding book_bytes plan_text
plan_listing head es r rest =
    let g = head.grouped in
    let end = end_record (total_corners es) in
    let runs = flat_map (entry_bytes g) es in
    let lines = flat_map (λ e. ascii "\n" ++ entry_text g e) es in
    ap listing_of (append_assoc (head_record head) (runs ++ end) rest ∙ ap (λ l. head_record head ++ l) (append_assoc runs end rest))
    ∙ head_listing head (runs ++ (end ++ rest)) r.head_fits
    ∙ ap (λ t. head_text head ++ t)
    (entries_listing g es (end ++ rest) r.entries ∙ ap (λ t. lines ++ t) (end_listing (total_corners es) rest) ∙ separators (ascii "\n") (entry_text g) es)
    ∙ sym (append_assoc (head_text head) (ascii "\n") (flat_map (λ e. entry_text g e ++ ascii "\n") es))
