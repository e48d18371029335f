-- `reply_regions` meets its contract: each return by the tests that led there.
use mathlib.Core.Path.{◌≡◌, sym, ◌∙◌}
use mathlib.Core.Bool.{true, false}
use mathlib.Core.List.{append-nil}
use native.Mathlib.Omega.{arith}
use lib.ListN.{length, length-append}
use borrow.Author.Tests.{le-leb, lt-leb}
use Rattle.file_regions.specs.Regions.{is_outside, second_due, list_bytes, answer_regions, regions_answer}
use Rattle.file_regions.proofs.Writing.{length-header, length-region, second-put}
use Rattle.file_regions.proofs.reply_regions.Goals as goal

pub returns-then-not-second_due : goal.returns-then-not-second_due
unfolding answer_regions list_bytes regions_answer
returns-then-not-second_due c =
    let is_inside : let a = c.args in is_outside a.f.eof a.a.offset ≡ false =
    sym c.is_outside.ensures ∙ c.if-is_outside.false in
    let is_one : let a = c.args in second_due a.f.eof a.f.valid a.a ≡ false =
    sym c.second_due.ensures ∙ c.if-not-second_due.true in
    rw (is_inside, is_one, ← c.first_region-first.ensures, le-leb _ _ c.requires.2, append-nil)
    (record {
      answered = c.from-then-not-second_due.ensures ∙ simp (length-append, length-header, length-region);
      output = c.put_front.ensures ∙ simp (length-append, length-header, length-region);
    })

pub returns-then-output-lt64 : goal.returns-then-output-lt64
unfolding answer_regions list_bytes regions_answer
returns-then-output-lt64 c =
    let is_inside : let a = c.args in is_outside a.f.eof a.a.offset ≡ false =
    sym c.is_outside.ensures ∙ c.if-is_outside.false in
    let is_two : let a = c.args in second_due a.f.eof a.f.valid a.a ≡ true =
    sym c.second_due.ensures ∙ c.if-not-second_due.false in
    let o = c.args.output.now in
    rw (is_inside, is_two, ← c.first_region-first.ensures, lt-leb 64 (length o) (omega (arith, c.if-output-lt64.true)), append-nil)
    (record { answered = simp (length-append, length-header, length-region); output = c.put_front-then-output-lt64.ensures ∙ simp (length-append, length-header, length-region) })

pub returns : goal.returns
unfolding answer_regions list_bytes regions_answer
returns c =
    let is_inside : let a = c.args in is_outside a.f.eof a.a.offset ≡ false =
    sym c.is_outside.ensures ∙ c.if-is_outside.false in
    let is_two : let a = c.args in second_due a.f.eof a.f.valid a.a ≡ true =
    sym c.second_due.ensures ∙ c.if-not-second_due.false in
    rw (is_inside, is_two, ← c.first_region-first.ensures, ← c.second_region-second.ensures, le-leb 64 _ c.if-output-lt64.false, append-nil)
    (record {
      answered = c.from-2.ensures ∙ simp (length-append, length-header, length-region);
      output =
          second-put c.first_region-first.result c.second_region-second.result c.args.output.now c.put_front-2.new.out c.put_region.new.out (omega (arith, c.if-output-lt64.false))
          c.put_front-2.ensures c.put_region.ensures
          ∙ simp (length-append, length-header, length-region);
    })
