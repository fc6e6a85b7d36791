-- Schedules of tests/vectors and the text that the definitions print for each, computed by the checker. Written by tests/vectors/definitions.
use mathlib.Core.Path.{◌≡◌, refl, sym, ◌∙◌}
use mathlib.Core.List.{List, [], ◌∷◌}
use Prim.Native.String.{String}
use lib.Count.{ones_in, count_trailing_zeros}
use Rattle.container.specs.Choice.{ite}
use Rattle.container.specs.Container.{has, insert, remove, union, cut, below, from, size, least, drop_least, upper_half, lower_half, split_key}
use Rattle.container.specs.Depths.{put, take_out, merge, within, lower, upper}
use Rattle.definitions.specs.Nodes.{check, replaceable}
use Rattle.definitions.specs.Frames.{between, reaches, adding, back}
use Rattle.definitions.specs.Steps.{reached, onward, followed, blocked, lacks, cleared, lost, probe, replaced, beside, reached_first, reached_next, step}
use Rattle.definitions.specs.Records.{taken, stepped, started, asked, record_step}
use Rattle.definitions.specs.Schedule.{count_of, record_at, file_refusal}
use Rattle.definitions.specs.Run.{bytes_of, run_refusal}
use Rattle.definitions.specs.Listing.{decimal, stations_to, stations_text, route_line, base_line, set_line, list_refusal}
use Rattle.definitions.specs.Printed.{action_word, first_line, depth_text, row_line, last_line, printed}
use Rattle.definitions.proofs.Quick.{quick_printed, quick_printed_printed}
use Rattle.vectors.proofs.Written.{file_of, text_of}

-- ---- 0067

abbrev file0067 : List String
file0067 =
    "02002102030280000000000000000000000000020904e200000000000000000000000004030000000000000000000000000000050900000000000000"
    ∷ "000000000000000000000000000000000000000000000000000000000000000000000000000000000000000000000000000000000000000000000000"
    ∷ "000000000000000000000000000000"
    ∷ []

abbrev text0067 : List String
text0067 =
    "records 33 of 33 refusal 0;t0 insert 3 yes;t0 insert 9 yes;t0 split 3 yes;t0 join 9 yes;0 neighbour 3=640 9=1250;set 3=6"
    ∷ "40 9=1250;stored 2 used 9;"
    ∷ []

computed0067 : quick_printed (file_of file0067) ≡ text_of text0067
unfolding bytes_of record_at between reaches adding back reached_first reached_next asked put take_out merge within lower upper depth_text row_line
    decimal stations_to stations_text route_line base_line set_line list_refusal check replaceable action_word first_line last_line taken stepped
    started record_step run_refusal count_of file_refusal reached onward followed blocked lacks cleared lost probe replaced beside step ite has insert
    remove union cut below from size least drop_least upper_half lower_half split_key ones_in count_trailing_zeros
computed0067 = refl

pub printed0067 : printed (file_of file0067) ≡ text_of text0067
printed0067 = sym (quick_printed_printed (file_of file0067)) ∙ computed0067

-- ---- 0068

abbrev file0068 : List String
file0068 =
    "02001f02030280000000000000000000000000020904e200000000000000000000000004030000000000000000000000000000050300000000000000"
    ∷ "000000000000000000000000000000000000000000000000000000000000000000000000000000000000000000000000000000000000000000000000"
    ∷ "00000000000000"
    ∷ []

abbrev text0068 : List String
text0068 =
    "records 31 of 31 refusal 0;t0 insert 3 yes;t0 insert 9 yes;t0 split 3 yes;0 route 9;1 main 3=640;1 neighbour 3=640 9=125"
    ∷ "0;set 3=640 9=1250;stored 2 used 9;"
    ∷ []

computed0068 : quick_printed (file_of file0068) ≡ text_of text0068
unfolding bytes_of record_at between reaches adding back reached_first reached_next asked put take_out merge within lower upper depth_text row_line
    decimal stations_to stations_text route_line base_line set_line list_refusal check replaceable action_word first_line last_line taken stepped
    started record_step run_refusal count_of file_refusal reached onward followed blocked lacks cleared lost probe replaced beside step ite has insert
    remove union cut below from size least drop_least upper_half lower_half split_key ones_in count_trailing_zeros
computed0068 = refl

pub printed0068 : printed (file_of file0068) ≡ text_of text0068
printed0068 = sym (quick_printed_printed (file_of file0068)) ∙ computed0068

-- ---- 0069

abbrev file0069 : List String
file0069 =
    "02002702030280000000000000000000000000020904e200000000000000000000000004030000000000000000000000000000050300000000000000"
    ∷ "000000000000000000000000000000000000000000000012030005100000001000000010000000100000001000000010000000100000001000000010"
    ∷ "000000000000000000000000000000000000000000000000000000000000000000000000000000"
    ∷ []

abbrev text0069 : List String
text0069 =
    "records 39 of 39 refusal 0;t0 insert 3 yes;t0 insert 9 yes;t0 split 3 yes;t1 insert 3 no;t0 join 3 no;0 route 9;1 normal"
    ∷ " 3=5;1 neighbour 9=1250;set 3=5 9=1250;stored 2 used 9;"
    ∷ []

computed0069 : quick_printed (file_of file0069) ≡ text_of text0069
unfolding bytes_of record_at between reaches adding back reached_first reached_next asked put take_out merge within lower upper depth_text row_line
    decimal stations_to stations_text route_line base_line set_line list_refusal check replaceable action_word first_line last_line taken stepped
    started record_step run_refusal count_of file_refusal reached onward followed blocked lacks cleared lost probe replaced beside step ite has insert
    remove union cut below from size least drop_least upper_half lower_half split_key ones_in count_trailing_zeros
computed0069 = refl

pub printed0069 : printed (file_of file0069) ≡ text_of text0069
printed0069 = sym (quick_printed_printed (file_of file0069)) ∙ computed0069

-- ---- 0070

abbrev file0070 : List String
file0070 =
    "02002f02030280000000000000000000000000020904e200000000000000000000000004030000000000000000000000000000050300000000000000"
    ∷ "000000000000000000000000000000000000000000000000000000000000000000000000000000000000000000000000000000000000000000000000"
    ∷ "0000000000000000000000000000001203270f1000000010000000100000001000000010000000100000001000000010000000100000001000000010"
    ∷ "0000002103000020000000"
    ∷ []

abbrev text0070 : List String
text0070 =
    "records 47 of 47 refusal 0;t0 insert 3 yes;t0 insert 9 yes;t0 split 3 yes;t1 insert 3 no;t2 lookup 3 yes 9999;0 normal 3"
    ∷ "=9999 9=1250;set 3=9999 9=1250;stored 2 used 10;"
    ∷ []

computed0070 : quick_printed (file_of file0070) ≡ text_of text0070
unfolding bytes_of record_at between reaches adding back reached_first reached_next asked put take_out merge within lower upper depth_text row_line
    decimal stations_to stations_text route_line base_line set_line list_refusal check replaceable action_word first_line last_line taken stepped
    started record_step run_refusal count_of file_refusal reached onward followed blocked lacks cleared lost probe replaced beside step ite has insert
    remove union cut below from size least drop_least upper_half lower_half split_key ones_in count_trailing_zeros
computed0070 = refl

pub printed0070 : printed (file_of file0070) ≡ text_of text0070
printed0070 = sym (quick_printed_printed (file_of file0070)) ∙ computed0070

-- ---- 0071

abbrev file0071 : List String
file0071 =
    "02002902030280000000000000000000000000020904e200000000000000000000000004030000000000000000000000000000110300001000000005"
    ∷ "030000000000000000000000000000000000000000000000000000000000000000000000000000000000000000000000000000000000000000000000"
    ∷ "0000000000000000000000000000000000000000000000000000000203028100000000000000000000000010000000"
    ∷ []

abbrev text0071 : List String
text0071 =
    "records 41 of 41 refusal 0;t0 insert 3 yes;t0 insert 9 yes;t0 split 3 yes;t0 join 3 yes;t0 insert 3 no;t1 lookup 3 yes 6"
    ∷ "40;0 normal 3=641 9=1250;set 3=641 9=1250;stored 2 used 10;"
    ∷ []

computed0071 : quick_printed (file_of file0071) ≡ text_of text0071
unfolding bytes_of record_at between reaches adding back reached_first reached_next asked put take_out merge within lower upper depth_text row_line
    decimal stations_to stations_text route_line base_line set_line list_refusal check replaceable action_word first_line last_line taken stepped
    started record_step run_refusal count_of file_refusal reached onward followed blocked lacks cleared lost probe replaced beside step ite has insert
    remove union cut below from size least drop_least upper_half lower_half split_key ones_in count_trailing_zeros
computed0071 = refl

pub printed0071 : printed (file_of file0071) ≡ text_of text0071
printed0071 = sym (quick_printed_printed (file_of file0071)) ∙ computed0071

-- ---- 0072

abbrev file0072 : List String
file0072 =
    "02002902030280000000000000000000000000020904e200000000000000000000000004030000000000000000000000000000110300001000000005"
    ∷ "030000000000000000000000000000000000000000000000000000000000000000000000000000000000000000000000000000000000000000000000"
    ∷ "0000000000000000000000000000000000000000000000000000000303000000000000000000000000000010000000"
    ∷ []

abbrev text0072 : List String
text0072 =
    "records 41 of 41 refusal 0;t0 insert 3 yes;t0 insert 9 yes;t0 split 3 yes;t0 join 3 yes;t0 remove 3 yes;t1 lookup 3 yes "
    ∷ "640;0 normal 9=1250;set 9=1250;stored 1 used 10;"
    ∷ []

computed0072 : quick_printed (file_of file0072) ≡ text_of text0072
unfolding bytes_of record_at between reaches adding back reached_first reached_next asked put take_out merge within lower upper depth_text row_line
    decimal stations_to stations_text route_line base_line set_line list_refusal check replaceable action_word first_line last_line taken stepped
    started record_step run_refusal count_of file_refusal reached onward followed blocked lacks cleared lost probe replaced beside step ite has insert
    remove union cut below from size least drop_least upper_half lower_half split_key ones_in count_trailing_zeros
computed0072 = refl

pub printed0072 : printed (file_of file0072) ≡ text_of text0072
printed0072 = sym (quick_printed_printed (file_of file0072)) ∙ computed0072
