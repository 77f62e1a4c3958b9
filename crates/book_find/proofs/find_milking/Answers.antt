-- `book_find::find_milking` meets its contract. Each test is the page's; the record found is the one whose mark is read.
-- Assumes nothing.
use mathlib.Core.Path.{sym, ◌∙◌}
use Rattle.answers.proofs.Told.{handed_on, refused_above}
use Rattle.wellformed.proofs.Facts.{label_span_lem}
use Rattle.book_find.proofs.Found.{find_length, lent_lengths, find_refused, find_no_label, find_unknown, find_placed, find_hidden, find_known}
use Rattle.book_find.proofs.find_milking.Goals as goal

pub returns-then-not-table_length : goal.returns-then-not-table_length
returns-then-not-table_length c = find_length _ _ (sym c.table_length.ensures ∙ c.if-not-table_length.true)

pub judge-requires : goal.judge-requires
judge-requires c = lent_lengths _ _ c.schema-schema.ensures (sym c.table_length.ensures ∙ c.if-not-table_length.false)

pub returns-in_err-t : goal.returns-in_err-t
returns-in_err-t c =
    let long = sym c.table_length.ensures ∙ c.if-not-table_length.false in
    handed_on _ _ _ c.from_residual.ensures.1 ∙ find_refused _ _ c.schema-schema.ensures long _ _ (refused_above _) c.in_err-t.ensures.number

pub returns-then-not-is_label : goal.returns-then-not-is_label
returns-then-not-is_label c =
    let t = c.in_ok-t in
    let e = t.ensures.lent in
    find_no_label _ _ _ t.t.checked (e.0 ∙ c.schema-schema.ensures) e.1 _ (sym c.is_label.ensures ∙ c.if-not-is_label.true)

pub find-requires : goal.find-requires
find-requires c = (label_span_lem _ (sym c.is_label.ensures ∙ c.if-not-is_label.false)).1

pub returns-in_default : goal.returns-in_default
returns-in_default c =
    let t = c.in_ok-t in
    let e = t.ensures.lent in
    find_unknown _ _ _ t.t.checked (e.0 ∙ c.schema-schema.ensures) e.1 _ c.in_default.ensures.missing

pub is_shown-requires : goal.is_shown-requires
is_shown-requires c =
    let t = c.in_ok-t in
    let e = t.ensures.lent in
    let f = c.in-Some.ensures.found in
    find_placed _ _ _ t.t.checked (e.0 ∙ c.schema-schema.ensures) e.1 _ _ f.0 f.1

pub returns-then-not-is_shown : goal.returns-then-not-is_shown
returns-then-not-is_shown c =
    let t = c.in_ok-t in
    let e = t.ensures.lent in
    let f = c.in-Some.ensures.found in
    let l = sym c.is_label.ensures ∙ c.if-not-is_label.false in
    find_hidden _ _ _ t.t.checked (e.0 ∙ c.schema-schema.ensures) e.1 _ _ f.0 f.1 l _ c.is_shown.ensures c.if-not-is_shown.true

pub returns : goal.returns
returns c =
    let t = c.in_ok-t in
    let e = t.ensures.lent in
    let f = c.in-Some.ensures.found in
    let l = sym c.is_label.ensures ∙ c.if-not-is_label.false in
    find_known _ _ _ t.t.checked (e.0 ∙ c.schema-schema.ensures) e.1 _ _ f.0 f.1 l _ c.is_shown.ensures c.if-not-is_shown.false
