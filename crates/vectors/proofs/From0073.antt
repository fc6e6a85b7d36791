-- Schedules of tests/vectors and the text that the definitions print for each, computed by the checker. Written by tests/vectors/definitions.
use mathlib.Core.Path.{◌≡◌, refl, sym, ◌∙◌}
use mathlib.Core.List.{List, [], ◌∷◌}
use Prim.Native.String.{String}
use lib.Count.{ones_in, count_trailing_zeros}
use Rattle.container.specs.Choice.{ite}
use Rattle.container.specs.Container.{has, insert, remove, union, cut, below, from, size, least, drop_least, upper_half, lower_half, split_key}
use Rattle.container.specs.Depths.{put, take_out, merge, within, lower, upper}
use Rattle.definitions.specs.Nodes.{check, replaceable}
use Rattle.definitions.specs.Frames.{between, reaches, adding, back}
use Rattle.definitions.specs.Steps.{reached, onward, followed, blocked, lacks, cleared, lost, probe, replaced, beside, reached_first, reached_next, step}
use Rattle.definitions.specs.Records.{taken, stepped, started, asked, record_step}
use Rattle.definitions.specs.Schedule.{count_of, record_at, file_refusal}
use Rattle.definitions.specs.Run.{bytes_of, run_refusal}
use Rattle.definitions.specs.Listing.{decimal, stations_to, stations_text, route_line, base_line, set_line, list_refusal}
use Rattle.definitions.specs.Printed.{action_word, first_line, depth_text, row_line, last_line, printed}
use Rattle.definitions.proofs.Quick.{quick_printed, quick_printed_printed}
use Rattle.vectors.proofs.Written.{file_of, text_of}

-- ---- 0073

abbrev file0073 : List String
file0073 =
    "0200050203028000000000000000000000000002042710"
    ∷ []

abbrev text0073 : List String
text0073 =
    "records 4 of 5 refusal 14;t0 insert 3 yes;0 normal 3=640;set 3=640;stored 1 used 2;"
    ∷ []

computed0073 : quick_printed (file_of file0073) ≡ text_of text0073
unfolding bytes_of record_at between reaches adding back reached_first reached_next asked put take_out merge within lower upper depth_text row_line
    decimal stations_to stations_text route_line base_line set_line list_refusal check replaceable action_word first_line last_line taken stepped
    started record_step run_refusal count_of file_refusal reached onward followed blocked lacks cleared lost probe replaced beside step ite has insert
    remove union cut below from size least drop_least upper_half lower_half split_key ones_in count_trailing_zeros
computed0073 = refl

pub printed0073 : printed (file_of file0073) ≡ text_of text0073
printed0073 = sym (quick_printed_printed (file_of file0073)) ∙ computed0073

-- ---- 0074

abbrev file0074 : List String
file0074 =
    "0200050203028000000000000000000000000002402710"
    ∷ []

abbrev text0074 : List String
text0074 =
    "records 4 of 5 refusal 9;t0 insert 3 yes;0 normal 3=640;set 3=640;stored 1 used 2;"
    ∷ []

computed0074 : quick_printed (file_of file0074) ≡ text_of text0074
unfolding bytes_of record_at between reaches adding back reached_first reached_next asked put take_out merge within lower upper depth_text row_line
    decimal stations_to stations_text route_line base_line set_line list_refusal check replaceable action_word first_line last_line taken stepped
    started record_step run_refusal count_of file_refusal reached onward followed blocked lacks cleared lost probe replaced beside step ite has insert
    remove union cut below from size least drop_least upper_half lower_half split_key ones_in count_trailing_zeros
computed0074 = refl

pub printed0074 : printed (file_of file0074) ≡ text_of text0074
printed0074 = sym (quick_printed_printed (file_of file0074)) ∙ computed0074

-- ---- 0075

abbrev file0075 : List String
file0075 =
    "020002010300000203ffff"
    ∷ []

abbrev text0075 : List String
text0075 =
    "records 1 of 2 refusal 14;0 normal -;set -;stored 0 used 1;"
    ∷ []

computed0075 : quick_printed (file_of file0075) ≡ text_of text0075
unfolding bytes_of record_at between reaches adding back reached_first reached_next asked put take_out merge within lower upper depth_text row_line
    decimal stations_to stations_text route_line base_line set_line list_refusal check replaceable action_word first_line last_line taken stepped
    started record_step run_refusal count_of file_refusal reached onward followed blocked lacks cleared lost probe replaced beside step ite has insert
    remove union cut below from size least drop_least upper_half lower_half split_key ones_in count_trailing_zeros
computed0075 = refl

pub printed0075 : printed (file_of file0075) ≡ text_of text0075
printed0075 = sym (quick_printed_printed (file_of file0075)) ∙ computed0075

-- ---- 0076

abbrev file0076 : List String
file0076 =
    "0200020103000003030001"
    ∷ []

abbrev text0076 : List String
text0076 =
    "records 1 of 2 refusal 10;0 normal -;set -;stored 0 used 1;"
    ∷ []

computed0076 : quick_printed (file_of file0076) ≡ text_of text0076
unfolding bytes_of record_at between reaches adding back reached_first reached_next asked put take_out merge within lower upper depth_text row_line
    decimal stations_to stations_text route_line base_line set_line list_refusal check replaceable action_word first_line last_line taken stepped
    started record_step run_refusal count_of file_refusal reached onward followed blocked lacks cleared lost probe replaced beside step ite has insert
    remove union cut below from size least drop_least upper_half lower_half split_key ones_in count_trailing_zeros
computed0076 = refl

pub printed0076 : printed (file_of file0076) ≡ text_of text0076
printed0076 = sym (quick_printed_printed (file_of file0076)) ∙ computed0076

-- ---- 0077

abbrev file0077 : List String
file0077 =
    "0200020103000000000100"
    ∷ []

abbrev text0077 : List String
text0077 =
    "records 1 of 2 refusal 10;0 normal -;set -;stored 0 used 1;"
    ∷ []

computed0077 : quick_printed (file_of file0077) ≡ text_of text0077
unfolding bytes_of record_at between reaches adding back reached_first reached_next asked put take_out merge within lower upper depth_text row_line
    decimal stations_to stations_text route_line base_line set_line list_refusal check replaceable action_word first_line last_line taken stepped
    started record_step run_refusal count_of file_refusal reached onward followed blocked lacks cleared lost probe replaced beside step ite has insert
    remove union cut below from size least drop_least upper_half lower_half split_key ones_in count_trailing_zeros
computed0077 = refl

pub printed0077 : printed (file_of file0077) ≡ text_of text0077
printed0077 = sym (quick_printed_printed (file_of file0077)) ∙ computed0077

-- ---- 0078

abbrev file0078 : List String
file0078 =
    "02000110000001"
    ∷ []

abbrev text0078 : List String
text0078 =
    "records 0 of 1 refusal 10;0 normal -;set -;stored 0 used 1;"
    ∷ []

computed0078 : quick_printed (file_of file0078) ≡ text_of text0078
unfolding bytes_of record_at between reaches adding back reached_first reached_next asked put take_out merge within lower upper depth_text row_line
    decimal stations_to stations_text route_line base_line set_line list_refusal check replaceable action_word first_line last_line taken stepped
    started record_step run_refusal count_of file_refusal reached onward followed blocked lacks cleared lost probe replaced beside step ite has insert
    remove union cut below from size least drop_least upper_half lower_half split_key ones_in count_trailing_zeros
computed0078 = refl

pub printed0078 : printed (file_of file0078) ≡ text_of text0078
printed0078 = sym (quick_printed_printed (file_of file0078)) ∙ computed0078
