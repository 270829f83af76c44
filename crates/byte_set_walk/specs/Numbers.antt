-- The numbers that the paper prints for a step of a walk of a byte set.
use Rattle.answers.specs.declared.Numbers.{Numbers}
use Rattle.answers.specs.declared.Span.{Span}
use Rattle.tables.specs.Handing.{numbers_of, span_parts}
use Rattle.tables.specs.declared.walks.Stepped.{Stepped}

abbrev pub step_numbers : Stepped Span → Numbers
step_numbers s = numbers_of span_parts s
