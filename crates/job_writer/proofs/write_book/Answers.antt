-- `job_writer::write_book` meets its contract: the runs stand behind the head, and the end behind both.
use mathlib.Core.List.{List, ◌∷◌, ◌++◌, append_assoc}
use Prim.Native.Nat.{ℕ}
use native.Mathlib.Omega.{arith}
use Rattle.fields.proofs.Over.{wrote_next}
use Rattle.job.specs.Written.{bytes2, bytes4, runs_bytes, bytes_of}
use Rattle.job_writer.specs.Listed.{count_of, runs_from}
use Rattle.job_writer.proofs.Runs.{runs_count}
use Rattle.job_writer.proofs.Books.{accepted_listing}
use Rattle.job_writer.proofs.write_book.Goals as goal

pub write_head-start-requires : goal.write_head-start-requires
write_head-start-requires c = omega (arith, (accepted_listing _ _ c.requires).long)

pub slice_bounds-write_runs-count : goal.slice_bounds-write_runs-count
slice_bounds-write_runs-count c = omega (arith, c.write_head-start.ensures.size, (accepted_listing _ _ c.requires).long)

pub slice_bounds-write_runs-start : goal.slice_bounds-write_runs-start
slice_bounds-write_runs-start c = omega (arith, c.write_head-start.ensures.size, (accepted_listing _ _ c.requires).long)

pub write_runs-requires : goal.write_runs-requires
write_runs-requires c =
    let l = accepted_listing _ _ c.requires in
    (l.few, omega (arith, l.whole), omega (arith, c.write_head-start.ensures.size, l.long), l.runs_accepted)

pub overflow_add-at : goal.overflow_add-at
overflow_add-at c =
    omega (arith, c.write_head-start.ensures.size, c.write_runs.ensures.1, (accepted_listing _ _ c.requires).few)

pub slice_bounds-write_end-count : goal.slice_bounds-write_end-count
slice_bounds-write_end-count c =
    omega (arith, c.write_head-start.ensures.size, c.write_runs.ensures.1, (accepted_listing _ _ c.requires).long)

pub slice_bounds-write_end-start : goal.slice_bounds-write_end-start
slice_bounds-write_end-start c =
    omega (arith, c.write_head-start.ensures.size, c.write_runs.ensures.1, (accepted_listing _ _ c.requires).long)

pub overflow_cast-count : goal.overflow_cast-count
overflow_cast-count c =
    omega (arith, (accepted_listing _ _ c.requires).few)

pub write_end-requires : goal.write_end-requires
write_end-requires c =
    omega (arith, c.write_head-start.ensures.size, c.write_runs.ensures.1, (accepted_listing _ _ c.requires).long)

pub overflow_add-result : goal.overflow_add-result
overflow_add-result c =
    omega (
      arith,
      c.write_head-start.ensures.size,
      c.write_runs.ensures.1,
      c.write_end.ensures.size,
      (accepted_listing _ _ c.requires).few,
    )

pub returns : goal.returns
unfolding bytes_of
returns c =
    let k = c.write_end in
    let r = c.write_runs in
    let h = c.write_head-start in
    let a = c.args in
    let list = a.runs.now in
    let head : List ℕ = 0x48 ∷ bytes4 a.number in
    let runs = runs_bytes (runs_from list (count_of list) 0) in
    let end : List ℕ = 0x5A ∷ bytes2 (count_of list) in
    let w = wrote_next head runs a.out.now h.new.out r.new.out h.result r.result h.ensures.size h.ensures.bytes r.ensures.0 in
    let e = wrote_next (head ++ runs) end a.out.now _ k.new.out _ k.result w.size w.bytes k.ensures in
    let f = rw (append_assoc head runs end) at e in
    rw (runs_count list (count_of list) 0) f
