-- The search for the first frame of a connection, step by step.
use Rattle.std.proofs.Common.{◌≡◌, ℕ, zero, suc, ◌+◌, ◌-◌, ◌<◌, ◌≤◌, Bool, nat_eq, ◌||◌, List, [], ◌++◌, length, get_or, drop, refl, sym, ap, subst, arith}
use Rattle.std.proofs.lemmas.List.{drop-append-le, get_or_append_left, length-append}
use Rattle.fix_base.specs.Shape.{IsFrame}
use Rattle.fix_base.specs.Stream.{Frame, TakesAll, ahead_of}
use Rattle.fix_base.proofs.Runs.{all_more}
use Rattle.fix_frame.specs.Answer.{Stands, Skipped, Waits}
use Rattle.fix_frame.specs.Seeks.{SkipsBy}
use Rattle.fix_frame.proofs.Steps.{skip_fits, skips_on, seeks_frame}
use Rattle.fix_host.specs.Known.{stream_of, HasFirstFrame, HasNoFrame}
use Rattle.fix_host.specs.Looking.{IsLookedTo, LooksAt}

-- nothing was looked at
pub looked_start : (bytes : List ℕ) → IsLookedTo bytes 0
looked_start bytes = record { items = []; take = refl; none = refl; inside = omega arith }

not_first : (n : ℕ) (b : Bool) → 0 < n → nat_eq n 0 || b ≡ b
not_first n b p = grind arith

-- one more item is skipped
pub looked_on : (bytes : List ℕ) (at n : ℕ) → IsLookedTo bytes at → Skipped (ahead_of bytes at) n → IsLookedTo bytes (at + n)
looked_on bytes at n k h =
    let fits = skip_fits bytes at n (ahead_of bytes at).may_mark k.inside h in
    let some : 0 < at + n = omega (arith, fits.0) in
    let mark = sym (not_first (at + n) (nat_eq (get_or bytes (at + n - 1) 0) 1) some) in
    subst (λ b. SkipsBy (stream_of bytes) (at + n) b) mark (skips_on (stream_of bytes) at n (ahead_of bytes at).may_mark k h)

-- the first frame stands here
pub looked_at : (bytes : List ℕ) (at : ℕ) (frame : List ℕ) → IsLookedTo bytes at → Stands (ahead_of bytes at) (Frame frame) → LooksAt bytes at (at + length frame)
looked_at bytes at frame k h =
    let s = seeks_frame (stream_of bytes) at (ahead_of bytes at).may_mark frame k h in
    record {
      order = s.order;
      inside = s.inside;
      first = record {
        rest = record { may_mark = nat_eq (get_or bytes (at + length frame - 1) 0) 1; bytes = drop (at + length frame) bytes };
        gives = record {
          at = record { may_mark = s.before; bytes = drop at bytes };
          skips = record { items = s.skips.items; take = s.skips.take; none = s.skips.none };
          frame_there = s.frame;
        };
      };
    }

-- nothing stands here yet
pub looked_none : (bytes : List ℕ) (at : ℕ) → IsLookedTo bytes at → Waits (ahead_of bytes at) → HasNoFrame bytes
looked_none bytes at k waits = record {
  rest = ahead_of bytes at;
  gives = record { skips = record { items = k.items; take = k.take; none = k.none }; end = waits };
}

-- the first frame is a frame
pub first_is_frame : (bytes frame : List ℕ) → HasFirstFrame bytes frame → IsFrame frame
first_is_frame bytes frame h = h.gives.frame_there.is.1

-- whether a mark may stand at a place, with more bytes
same_mark : (bytes more : List ℕ) (at : ℕ) → at ≤ length bytes → (ahead_of bytes at).may_mark ≡ (ahead_of (bytes ++ more) at).may_mark
same_mark bytes more zero le = refl
same_mark bytes more (suc at) le =
    let lt : suc at - 1 < length bytes = omega (arith, le) in
    ap (λ x. nat_eq (suc at) 0 || nat_eq x 1) (sym (get_or_append_left bytes more 0 (suc at - 1) lt))

-- what was looked at needs no second look when more bytes come
pub looked_more : (bytes more : List ℕ) (at : ℕ) → IsLookedTo bytes at → IsLookedTo (bytes ++ more) at
looked_more bytes more at k =
    let taken = all_more (stream_of bytes) k.items (ahead_of bytes at) more k.take in
    let rest : drop at bytes ++ more ≡ drop at (bytes ++ more) = sym (drop-append-le at bytes more k.inside) in
    let mark = same_mark bytes more at k.inside in
    record {
      items = k.items;
      take = subst (λ b. TakesAll (stream_of (bytes ++ more)) k.items (record { may_mark = b; bytes = drop at (bytes ++ more) })) mark
          (subst (λ (w : List ℕ). TakesAll (stream_of (bytes ++ more)) k.items (record { may_mark = (ahead_of bytes at).may_mark; bytes = w })) rest taken);
      none = k.none;
      inside = omega (arith, k.inside, length-append bytes more);
    }
