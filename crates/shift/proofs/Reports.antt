-- Request K1 in one record, each field by its theorem. Rests on Reporting, Unique, shift_feed's Unique and figures' Ends and Unique.
use mathlib.Core.Path.{◌≡◌, refl}
use Rattle.digits.specs.Digits.{is_digit}
use Rattle.figures.proofs.Ends.{arena_ends_hold}
use Rattle.figures.proofs.Unique.{figures_unique}
use Rattle.figures_text.specs.Texts.{decimal_of}
use Rattle.shift_feed.proofs.Unique.{goes_unique}
use Rattle.shift.specs.Reports.{report_of, text_of, five_lines, three_lines, Reports}
use Rattle.shift.proofs.Reporting.{reporting}
use Rattle.shift.proofs.Unique.{answer_unique}

five_lines_lem : text_of (report_of five_lines) ≡ three_lines
unfolding is_digit decimal_of
five_lines_lem = refl

pub reports : Reports
reports = record {
  example = five_lines_lem;
  reporting = reporting;
  smallest = λ p a i l. (arena_ends_hold p a i l).0;
  largest = λ p a i l. (arena_ends_hold p a i l).1;
  one_desk = goes_unique;
  one_figures = figures_unique;
  one_text = answer_unique;
}
