use mathlib.Core.Path.{sym}
use Rattle.queries.specs.Queries.{word_of}
use Rattle.queries.proofs.Words.{alike}
use Rattle.queries.proofs.word_of.Goals as goal

pub returns-then-eq : goal.returns-then-eq
unfolding word_of
returns-then-eq c = sym (rw (alike c.args.word.now c.as_slice.ensures c.if-eq.ensures))

pub returns-then-eq-2 : goal.returns-then-eq-2
unfolding word_of
returns-then-eq-2 c = sym (rw (alike c.args.word.now c.as_slice.ensures c.if-eq.ensures, alike c.args.word.now c.as_slice-2.ensures c.if-eq-2.ensures))

pub returns-then-eq-3 : goal.returns-then-eq-3
unfolding word_of
returns-then-eq-3 c = sym (rw (alike c.args.word.now c.as_slice.ensures c.if-eq.ensures, alike c.args.word.now c.as_slice-2.ensures c.if-eq-2.ensures, alike c.args.word.now c.as_slice-3.ensures c.if-eq-3.ensures))

pub returns-then-eq-4 : goal.returns-then-eq-4
unfolding word_of
returns-then-eq-4 c = sym (rw (alike c.args.word.now c.as_slice.ensures c.if-eq.ensures, alike c.args.word.now c.as_slice-2.ensures c.if-eq-2.ensures, alike c.args.word.now c.as_slice-3.ensures c.if-eq-3.ensures, alike c.args.word.now c.as_slice-4.ensures c.if-eq-4.ensures))

pub returns-then-eq-5 : goal.returns-then-eq-5
unfolding word_of
returns-then-eq-5 c = sym (rw (alike c.args.word.now c.as_slice.ensures c.if-eq.ensures, alike c.args.word.now c.as_slice-2.ensures c.if-eq-2.ensures, alike c.args.word.now c.as_slice-3.ensures c.if-eq-3.ensures, alike c.args.word.now c.as_slice-4.ensures c.if-eq-4.ensures, alike c.args.word.now c.as_slice-5.ensures c.if-eq-5.ensures))

pub returns-then-eq-6 : goal.returns-then-eq-6
unfolding word_of
returns-then-eq-6 c = sym (rw (alike c.args.word.now c.as_slice.ensures c.if-eq.ensures, alike c.args.word.now c.as_slice-2.ensures c.if-eq-2.ensures, alike c.args.word.now c.as_slice-3.ensures c.if-eq-3.ensures, alike c.args.word.now c.as_slice-4.ensures c.if-eq-4.ensures, alike c.args.word.now c.as_slice-5.ensures c.if-eq-5.ensures, alike c.args.word.now c.as_slice-6.ensures c.if-eq-6.ensures))

pub returns : goal.returns
unfolding word_of
returns c = sym (rw (alike c.args.word.now c.as_slice.ensures c.if-eq.ensures, alike c.args.word.now c.as_slice-2.ensures c.if-eq-2.ensures, alike c.args.word.now c.as_slice-3.ensures c.if-eq-3.ensures, alike c.args.word.now c.as_slice-4.ensures c.if-eq-4.ensures, alike c.args.word.now c.as_slice-5.ensures c.if-eq-5.ensures, alike c.args.word.now c.as_slice-6.ensures c.if-eq-6.ensures))
